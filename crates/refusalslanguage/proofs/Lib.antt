mod KeptVariables
mod Lexed
mod ReadLines
mod Results
mod SmallNumbers
mod Somewhere
mod Words
