pub mod StagedViews
