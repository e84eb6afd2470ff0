-- The worked examples, by computing.
use mathlib.Core.Path.{refl}
use Rattle.address.specs.Windows.{holds, first_from, window_of, translated}
use Rattle.burst.specs.Bursts.{end_from, burst_right, burst_number, length_of}
use Rattle.burst.specs.Pieces.{piece_count, piece_first, piece_end, piece_at, addresses, pieces}
use Rattle.burst.specs.Words.{word_count, first_enables, last_enables}
use Rattle.burst.specs.Examples.{W2, W3, W4, W5, W6, Fields, Pages, Cuts}

pub w2 : W2
unfolding translated end_from burst_right length_of piece_count piece_first piece_end piece_at addresses pieces
w2 = refl

pub w3 : W3
unfolding translated end_from burst_right length_of piece_count piece_first piece_end piece_at addresses pieces word_count first_enables last_enables
w3 = (refl, refl, refl, refl, refl, refl)

pub w4 : W4
unfolding translated end_from burst_right length_of word_count first_enables last_enables
w4 = (refl, refl, refl, refl)

pub w5 : W5
unfolding end_from burst_right burst_number length_of
w5 = (refl, refl, refl)

pub w6 : W6
unfolding window_of first_from holds
w6 = (refl, refl)

pub fields : Fields
unfolding end_from burst_right burst_number
fields = (refl, refl, refl)

pub pages : Pages
unfolding end_from burst_right burst_number length_of
pages = (refl, refl, refl, refl)

pub cuts : Cuts
unfolding piece_count
cuts = refl
