pub mod Results
pub mod Names
pub mod AnyFile
pub mod EachLoops
pub mod OneImports
