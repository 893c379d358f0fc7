mod CommandLines
mod Dotted
mod Expecting
mod Listed
mod Results
mod Spelled
mod Tests
