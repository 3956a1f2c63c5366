pub use Rattle.rpc_outside.specs.Served
pub use Rattle.rpc_outside.specs.declared.service.Mode
