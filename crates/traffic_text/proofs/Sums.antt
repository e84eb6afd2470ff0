-- One more byte of a checksum.
use Rattle.std.proofs.Common.{◌≡◌, ℕ, ◌+◌, List, get_or, add-one}
use Rattle.traffic_text.specs.Sums.{low_to, high_to}

pub low_step : (s : List ℕ) (i a x : ℕ) → a ≡ low_to s i → x ≡ get_or s i 0 → a + x ≡ low_to s (i + 1)
unfolding low_to
low_step s i a x e f = rw (add-one, e, f)

pub high_step : (s : List ℕ) (i b a : ℕ) → b ≡ high_to s i → a ≡ low_to s (i + 1) → b + a ≡ high_to s (i + 1)
unfolding high_to
high_step s i b a e f = rw (f, e, add-one)
