mod Installed
mod Opened
mod Results
mod SilentBuses
