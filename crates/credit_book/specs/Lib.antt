pub mod Credits
