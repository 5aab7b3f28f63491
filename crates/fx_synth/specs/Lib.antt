pub mod Synthesis
