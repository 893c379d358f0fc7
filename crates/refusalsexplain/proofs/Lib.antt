mod Outcomes
mod Results
