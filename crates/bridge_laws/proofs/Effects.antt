-- The effect of each step, by rows and core: the verbs, completions and timeouts, the link.
pub use Rattle.bridge_laws.proofs.Verbs.{then, core_acts, counted_acts, shut_acts, freed_acts, opened_acts, failed_acts, claimed_acts, piece_closed_lem, released_acts}
pub use Rattle.bridge_laws.proofs.Serving.{memory_serves, config_serves, routed_acts, timed_out_expires}
pub use Rattle.bridge_laws.proofs.Dropping.{drop_acts, drop_store, drop_loses}
