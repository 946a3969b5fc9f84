pub mod ModelFile
