mod Attempting
mod Logs
mod LostFrames
mod ShortTexts
