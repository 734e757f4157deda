pub mod KeyRuns
