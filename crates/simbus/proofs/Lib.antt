mod Fields
mod Happened
mod Keeping
mod Replies
mod ScenarioSetups
mod Stages
mod Steps
