pub mod Reading
pub mod ValueTurns
pub mod ParamTurns
pub mod WholeLines
