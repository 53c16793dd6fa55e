pub mod ClusterInfo
pub mod LoadsBack
