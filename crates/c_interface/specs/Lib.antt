pub mod Results
pub mod LoadAndRun
