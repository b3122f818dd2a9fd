pub mod DataBlocks
