-- Labels and tags: what is accepted at a tag answers the request that the tag is open for. `es` is what is still to come.
use Prim.Native.Nat.{ℕ, ◌+◌, ◌-◌, ◌%◌, ◌≤◌, ◌<◌}
use mathlib.Core.Path.{◌≡◌, refl, sym, ap, subst, ◌∙◌}
use mathlib.Core.Logic.{◌≢◌}
use mathlib.Core.List.{List, [], ◌∷◌, ◌++◌, append_assoc, Memᴰ}
use mathlib.Core.Bool.{Bool, true, false, cond, ◌&&◌}
use native.Mathlib.Omega.{arith}
use native.Mathlib.Decide.{ℕ_discrete}
use lib.ListN.{length, drop, length-append}
use lib.Dec.{eqb}
use borrow.Author.Tests.{eq-eqb, ne_eqb}
use Rattle.std.specs.Prelude.{Ok}
use Rattle.tlp.specs.declared.completion.Completion.{Completion}
use Rattle.machine.specs.State.{Bridge, Tag, slot_count, tag_at, Open}
use Rattle.machine.specs.Verdict.{useful}
use Rattle.machine.specs.Completions.{Held, completion_of, useful_bytes}
use Rattle.bridge_laws.specs.Rows.{Free}
use Rattle.trace.specs.Events.{Event, call, completion, tick, link}
use Rattle.trace.specs.FarSide.{carries, bytes_sent, Sends, Request, Wire, PairedBy, Paired, readable, paired, Some, lost}
use Rattle.trace.proofs.Tags.Turn.{no_path, some_all, some_none, some_then, some_length, useful_length, next_comes}

-- request i was sent with tag t since the link last went down
abbrev pub At : ℕ → ℕ → List Request → Type 0
At i t l = Memᴰ (record { number = i; tag = t }) l

-- the last one that was, of those with tag t: the tag's present request
abbrev pub own_of : List Request → ℕ → ℕ
own_of [] t = 0
own_of (r ∷ l) t = cond (eqb r.tag t) r.number (own_of l t)

-- ---- the completions that are still to come

-- those after an event are some of those before it
pub later : (i : ℕ) (e : Event) (es : List Event) → Some (paired i es) (paired i (e ∷ es))
later i (call c) es = some_all (paired i es)
later i (completion j s) es = by (eqb i j && readable (completion_of s))
  where
    by : (b : Bool) → Some (paired i es) (cond b (s ∷ paired i es) (paired i es))
    by true = lost (some_all (paired i es))
    by false = some_all (paired i es)
later i tick es = some_all (paired i es)
later i (link up) es = some_all (paired i es)

later_none : (i : ℕ) (e : Event) (es : List Event) → paired i (e ∷ es) ≡ [] → paired i es ≡ []
later_none i e es q = some_none (subst (Some (paired i es)) q (later i e es))

pub paired_own : (i : ℕ) (s : List ℕ) (c : Completion) (es : List Event) → completion_of s ≡ Ok c → paired i (completion i s ∷ es) ≡ s ∷ paired i es
paired_own i s c es e = rw (eq-eqb i i refl, e)

pub paired_other : (i j : ℕ) (s : List ℕ) (es : List Event) → i ≢ j → paired i (completion j s ∷ es) ≡ paired i es
paired_other i j s es n = rw (ne_eqb i j n)

-- ---- the invariant

module _ (sent : ℕ → List (List ℕ)) where
  -- request i, for n bytes in all, of which m are missing, from address a on: the bytes that came for it, and what is left of
  -- its list
  pub record Flow (es : List Event) (i n a m : ℕ) : Type 0 where
    pub got : List ℕ
    pub rest : List (List ℕ)
    pub size : length got + m ≡ n
    pub bytes : got ++ bytes_sent m rest ≡ bytes_sent n (sent i)
    pub sends : Sends a m rest
    pub comes : Some (paired i es) rest

  -- the row of a memory read's tag, open for request i
  pub record RowStream (r : Tag) (es : List Event) (i : ℕ) : Type 0 where
    pub whole : ℕ
    pub next : ℕ
    pub flow : Flow es i whole next r.missing
    pub low : next % 128 ≡ r.next % 128

  abbrev pub Stream : Bridge → List Event → ℕ → ℕ → Type 0
  Stream b es i t = RowStream (tag_at b t) es i

  -- the row of an open tag t, for its present request: so much of a memory read, or one completion
  pub record OpenFine (r : Tag) (w : Wire) (es : List Event) (t : ℕ) : Type 0 where
    pub here : At (own_of w.live t) t w.live
    pub stream : r.owner < slot_count → RowStream r es (own_of w.live t)
    pub word : slot_count ≤ r.owner → length (paired (own_of w.live t) es) ≤ 1

  -- what may still come with tag t: nothing, where it is free; for its present request alone, open or resting
  pub record TagFine (b : Bridge) (w : Wire) (es : List Event) (t : ℕ) : Type 0 where
    pub quiet : Free b t → (i : ℕ) → At i t w.live → paired i es ≡ []
    pub others : (i : ℕ) → At i t w.live → i ≢ own_of w.live t → paired i es ≡ []
    pub opens : Open b t → OpenFine (tag_at b t) w es t

  pub record Labels (w : Wire) (es : List Event) : Type 0 where
    pub known : (i t : ℕ) → At i t w.live → i < w.count
    pub once : (i t u : ℕ) → At i t w.live → At i u w.live → t ≡ u
    pub future : (i : ℕ) → w.count ≤ i → Some (paired i es) (sent i)

  pub record Wired (h : Held) (w : Wire) (es : List Event) : Type 0 where
    pub labels : Labels w es
    pub tags : (t : ℕ) → TagFine h.bridge w es t

  -- a completion that comes answers its tag's present request, whatever the tag does
  pub present_comes : (h : Held) (w : Wire) (i : ℕ) (s : List ℕ) (c : Completion) (es : List Event) → Wired h w (completion i s ∷ es) → Paired w (completion i s)
      → completion_of s ≡ Ok c → i ≡ own_of w.live c.tag
  present_comes h w i s c es v p e = by (ℕ_discrete i (own_of w.live c.tag))
    where
      by : Dec (i ≡ own_of w.live c.tag) → i ≡ own_of w.live c.tag
      by (yes y) = y
      by (no n) = let z = (v.tags c.tag).others i (subst (PairedBy w i) e p) n in let y = paired_own i s c es e in no_path (cc)

  -- ---- with an event gone by, and the wire as it was

  pub flow_later : (e : Event) (es : List Event) (i n a m : ℕ) → Flow (e ∷ es) i n a m → Flow es i n a m
  flow_later e es i n a m f =
      record { got = f.got; rest = f.rest; size = f.size; bytes = f.bytes; sends = f.sends; comes = some_then (later i e es) f.comes }

  open_later : (r : Tag) (w : Wire) (e : Event) (es : List Event) (t : ℕ) → OpenFine r w (e ∷ es) t → OpenFine r w es t
  open_later r w e es t o =
      let i = own_of w.live t in
      record {
        here = o.here;
        stream = λ l. let f = o.stream l in record { whole = f.whole; next = f.next; flow = flow_later e es i f.whole f.next r.missing f.flow; low = f.low };
        word = λ l. omega (arith, some_length (later i e es), o.word l);
      }

  pub wired_later : (h : Held) (w : Wire) (e : Event) (es : List Event) → Wired h w (e ∷ es) → Wired h w es
  wired_later h w e es v =
      record {
        labels = record { known = v.labels.known; once = v.labels.once; future = λ i l. some_then (later i e es) (v.labels.future i l) };
        tags = λ t. let f = v.tags t in record {
          quiet = λ s i a. later_none i e es (f.quiet s i a);
          others = λ i a n. later_none i e es (f.others i a n);
          opens = λ m. open_later (tag_at h.bridge t) w e es t (f.opens m);
        };
      }

  -- the next data for request i: what was left of its list is that data, and what is left now
  pub record Flows (es : List Event) (i n a m : ℕ) (c : Completion) (s : List ℕ) (f : Flow (completion i s ∷ es) i n a m) : Type 0 where
    pub after : Flow es i n (a + useful c m) (m - useful c m)
    pub put : after.got ≡ f.got ++ useful_bytes (c.lower % 4) (useful c m) (drop 12 s)
    pub lower : c.lower ≡ a % 128

  pub flow_next : (es : List Event) (i n a m : ℕ) (c : Completion) (s : List ℕ) (f : Flow (completion i s ∷ es) i n a m)
      → completion_of s ≡ Ok c → carries c ≡ true → c.count ≡ m → Flows es i n a m c s f
  flow_next es i n a m c s f e d q =
      let x = next_comes c s (paired i es) e d a m q f.sends (rw (paired_own i s c es e) at f.comes) in
      let b = useful_bytes (c.lower % 4) (useful c m) (drop 12 s) in
      record {
        after = record {
          got = f.got ++ b;
          rest = x.left;
          size = omega (arith, f.size, length-append f.got b, useful_length m s c e);
          bytes = append_assoc f.got b (bytes_sent (m - useful c m) x.left) ∙ (ap (λ (v : List ℕ). f.got ++ v) (sym x.bytes) ∙ f.bytes);
          sends = x.sends;
          comes = x.comes;
        };
        put = refl;
        lower = x.states.lower;
      }
