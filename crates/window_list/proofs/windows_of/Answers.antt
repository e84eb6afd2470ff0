use Rattle.std.proofs.Common.{◌≡◌, ℕ, ◌<◌, List, length, get_or, sym, ◌∙◌, rules, arith}
use Rattle.common.proofs.Cells.{cells_all}
use Rattle.window_list.specs.declared.Window.{Window}
use Rattle.window_list.specs.List.{nth, six, zeros}
use Rattle.window_list.proofs.windows_of.Goals as goal

-- six numbers, each of the record at its place
six_of : (f : Window → ℕ) (s : List Window) (l : List ℕ) → length l ≡ 6 → ((k : ℕ) → k < 6 → get_or l k 0 ≡ f (nth s k)) → l ≡ six f s
six_of f s l h e =
    sym (cells_all 6 l h)
    ∙ rw (e 0 (omega arith), e 1 (omega arith), e 2 (omega arith), e 3 (omega arith), e 4 (omega arith), e 5 (omega arith))

pub returns : goal.returns
returns c =
    let s = c.args.six in
    let b : c.map.result ≡ six (λ w. w.base) s = six_of (λ w. w.base) s c.map.result c.map.ensures.items.long (λ k h. let m = c.map.ensures.items.at k zeros 0 h in search (rules, m)) in
    let z : c.map-2.result ≡ six (λ w. w.size) s = six_of (λ w. w.size) s c.map-2.result c.map-2.ensures.items.long (λ k h. let m = c.map-2.ensures.items.at k zeros 0 h in search (rules, m)) in
    let t : c.map-3.result ≡ six (λ w. w.target) s = six_of (λ w. w.target) s c.map-3.result c.map-3.ensures.items.long (λ k h. let m = c.map-3.ensures.items.at k zeros 0 h in search (rules, m)) in
    rw (c.count_of.ensures, b, z, t)
