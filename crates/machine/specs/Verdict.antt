-- The verdict on a completion is a crate of its own, and its names are passed on.
pub use Rattle.verdict.specs.Verdict.{cause_of, useful, in_order, received, config_shape, cause_response, cause_bit}
unfoldable pub use Rattle.verdict.specs.Verdict.{memory_verdict, config_verdict}
