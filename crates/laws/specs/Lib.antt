pub mod Log
pub mod LogLaws
pub mod Space
pub mod Wear
pub mod Recovery
