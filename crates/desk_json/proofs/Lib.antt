pub mod PartedWritten
pub mod LegsRead
pub mod KeysFound
pub mod SaysIt
