pub mod ArgLemmas
pub mod LoadRows
pub mod RowLemmas
pub mod ServeRows
pub mod SubcommandLemmas
pub mod WordRows
