-- Settings at and beyond the edges, by computing.
use Rattle.std.proofs.Common.{refl}
use Rattle.address.specs.Settings.{power_among, each_from, window_right, apart, windows_right, settings_right, settings_number}
use Rattle.address.specs.Examples.{Sizes, Multiples, Ranges, Counts, Limits, Others}

pub sizes : Sizes
unfolding power_among each_from window_right apart windows_right settings_right settings_number
sizes = refl

pub multiples : Multiples
unfolding power_among each_from window_right apart windows_right settings_right settings_number
multiples = refl

pub ranges : Ranges
unfolding power_among each_from window_right apart windows_right settings_right settings_number
ranges = refl

pub counts : Counts
unfolding power_among each_from window_right apart windows_right settings_right settings_number
counts = refl

pub limits : Limits
unfolding power_among each_from window_right apart windows_right settings_right settings_number
limits = (refl, refl)

pub others : Others
unfolding power_among each_from window_right apart windows_right settings_right settings_number
others = (refl, refl, refl)
