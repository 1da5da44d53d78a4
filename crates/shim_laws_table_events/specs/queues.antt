-- The definitions of queues, one module for each subject.
pub mod Requeueing
pub mod RecordDecisions
pub mod NoMore
pub mod EventQueue
