mod CRuns
mod Behaving
