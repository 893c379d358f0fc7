mod Spellings
mod Tables
