mod NamedBlocks
mod WrittenCommands
