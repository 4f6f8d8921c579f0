pub mod LogSteps
pub mod LogCuts
pub mod LogSpace
pub mod WearLaws
pub mod RecoveryLaws
