pub mod DrillLine
