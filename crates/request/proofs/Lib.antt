pub mod EveryCall
