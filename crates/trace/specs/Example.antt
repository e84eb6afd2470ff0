-- The premise of demand 3 can be met: one list of events with timeouts, a lost, a late, a poisoned, a failing and a malformed
-- completion, a tag that is used again, a routed configuration read and a link drop.
use Rattle.std.specs.Prelude.{ℕ, ◌*◌, ◌≡◌, List, [], ◌∷◌, ◌++◌, map, true, false, get_or, take, replicate}
use Rattle.address.specs.declared.Settings.{Settings}
use Rattle.address.specs.Settings.{example_windows}
use Rattle.address.specs.Windows.{axi}
use Rattle.burst.specs.declared.Burst.{Burst}
use Rattle.refusals.specs.declared.Response.{Response}
use Rattle.refusals.specs.declared.Response.TheVariants.{Nothing, Okay, Slverr, Decerr}
use Rattle.machine.specs.State.{registers_of}
use Rattle.machine.specs.Memory.{area_size}
use Rattle.machine.specs.Config.{Access, access_of}
use Rattle.machine.specs.Completions.{store_size, Held}
use Rattle.trace.specs.Events.{read, config, Event, call, completion, tick, link, look, release, step, run, start, Seen, seen}
use Rattle.trace.specs.FarSide.{Ask, asked, FarSide}

-- ---- where the list starts

-- the window of the worked examples, with T = 2
abbrev pub settings : Settings
settings = record { windows = example_windows; bits = 8; reads = 128; writes = 128; limit = 2; requester = 0 }

-- a store of the least size, all 7
abbrev pub store : List ℕ
store = replicate store_size 7

abbrev pub begun : Held
begun = start settings store

-- ---- what is asked

-- beats of 4 bytes
abbrev pub words : ℕ → ℕ → Burst
words first beats = record { start = axi first; size = 2; beats = beats; kind = 1 }

-- 4 bytes, and 8, from 56710ABC on
abbrev pub four : Burst
four = words 0x12340ABC 1

abbrev pub eight : Burst
eight = words 0x12340ABC 2

-- 10 bytes, cut at 56710B00: 6 from 56710AFA on, and 4
abbrev pub ten : Burst
ten = words 0x12340AFA 3

-- secondary and subordinate bus are 1; and the first word there
abbrev pub set_buses : Access
set_buses = access_of 0x018 true 0xF 0x00010100

abbrev pub on_bus1 : Access
on_bus1 = access_of 0x00100000 false 0 0

-- ---- what the far side sends

-- success with one word; the third byte has EP in bit 6. Completer 0100, requester 0
abbrev pub word_of : ℕ → ℕ → ℕ → ℕ → List ℕ → List ℕ
word_of poison tag count lower payload =
    0x4A ∷ 0 ∷ poison ∷ 1 ∷ 1 ∷ 0 ∷ 0 ∷ count ∷ 0 ∷ 0 ∷ tag ∷ lower ∷ payload

abbrev pub good : ℕ → ℕ → ℕ → List ℕ → List ℕ
good tag count lower payload = word_of 0 tag count lower payload

-- a status without data
abbrev pub status : ℕ → ℕ → List ℕ
status code tag = 0x0A ∷ 0 ∷ 0 ∷ 0 ∷ 1 ∷ 0 ∷ (code * 32) ∷ 4 ∷ 0 ∷ 0 ∷ tag ∷ 0 ∷ []

-- for the first read; it comes late
abbrev pub a1 : List ℕ
a1 = good 0 4 0x3C (11 ∷ 12 ∷ 13 ∷ 14 ∷ [])

-- for the second read, in two; the first is lost
abbrev pub b1 : List ℕ
b1 = good 1 8 0x3C (15 ∷ 16 ∷ 17 ∷ 18 ∷ [])

abbrev pub b2 : List ℕ
b2 = good 1 4 0x40 (19 ∷ 20 ∷ 21 ∷ 22 ∷ [])

-- poisoned
abbrev pub c1 : List ℕ
c1 = word_of 0x40 2 4 0x3C (23 ∷ 24 ∷ 25 ∷ 26 ∷ [])

-- UR
abbrev pub d1 : List ℕ
d1 = status 1 2

-- for the read of ten bytes: the first request's in two, of 2 bytes and of 4, and the second request's
abbrev pub e1 : List ℕ
e1 = good 2 6 0x7A (0 ∷ 0 ∷ 31 ∷ 32 ∷ [])

abbrev pub e2 : List ℕ
e2 = good 2 4 0x7C (33 ∷ 34 ∷ 35 ∷ 36 ∷ [])

abbrev pub e3 : List ℕ
e3 = good 3 4 0x00 (37 ∷ 38 ∷ 39 ∷ 40 ∷ [])

-- a byte is gone
abbrev pub malformed : List ℕ
malformed = take 15 e2

-- for the configuration read
abbrev pub g1 : List ℕ
g1 = good 2 4 0 (0x78 ∷ 0x56 ∷ 0x34 ∷ 0x12 ∷ [])

-- for the read that the link drop cuts off; it does not come
abbrev pub h1 : List ℕ
h1 = good 2 4 0x3C (41 ∷ 42 ∷ 43 ∷ 44 ∷ [])

-- for the read after the drop
abbrev pub f1 : List ℕ
f1 = good 0 4 0x3C (51 ∷ 52 ∷ 53 ∷ 54 ∷ [])

-- by request number
abbrev pub lists : List (List (List ℕ))
lists =
    (a1 ∷ []) ∷ (b1 ∷ b2 ∷ []) ∷ (c1 ∷ []) ∷ (d1 ∷ []) ∷ (e1 ∷ e2 ∷ []) ∷ (e3 ∷ []) ∷ (g1 ∷ []) ∷ (h1 ∷ []) ∷ (f1 ∷ []) ∷ []

abbrev pub sent : ℕ → List (List ℕ)
sent i = get_or lists i []

-- ---- the list

abbrev pub before : List Event
before =
    link true
    ∷ call (read four area_size)  -- request 0, tag 0
    ∷ tick
    ∷ call (look 0)  -- not answered yet
    ∷ tick  -- times out: the tag rests
    ∷ call (read eight area_size)  -- request 1, tag 1
    ∷ completion 1 b2  -- the first is lost
    ∷ completion 0 a1  -- late
    ∷ call (look 0)
    ∷ call (release 0)
    ∷ tick
    ∷ tick  -- times out
    ∷ call (release 1)
    ∷ call (read four area_size)  -- request 2, tag 2
    ∷ completion 2 c1
    ∷ call (release 0)
    ∷ call (read four area_size)  -- request 3, tag 2
    ∷ completion 3 d1
    ∷ call (release 0)
    ∷ []

-- requests 4 and 5, tags 2 and 3, are then sent for ten bytes; the second request's completion comes first
abbrev pub during : List Event
during = completion 5 e3 ∷ completion 4 e1 ∷ completion 0 malformed ∷ completion 4 e2 ∷ []

abbrev pub between : List Event
between = call (look 0) ∷ call (release 0) ∷ call (config set_buses area_size) ∷ call (release 8) ∷ []

-- request 6, tag 2, is then sent for the configuration read
abbrev pub after : List Event
after =
    completion 6 g1
    ∷ call (look 8)
    ∷ call (release 8)
    ∷ call (read four area_size)  -- request 7, tag 2
    ∷ link false
    ∷ link true
    ∷ call (look 0)
    ∷ call (release 0)
    ∷ call (read four area_size)  -- request 8, tag 0
    ∷ completion 8 f1
    ∷ call (look 0)
    ∷ call (release 0)
    ∷ []

abbrev pub to_config : List Event
to_config = before ++ call (read ten area_size) ∷ during ++ between

abbrev pub events : List Event
events = to_config ++ call (config on_bus1 area_size) ∷ after

-- ---- what it shows

-- of each event: number, response, data word, look's bytes and session number
pub record Told : Type 0 where
  pub number : ℕ
  pub response : Response
  pub word : ℕ
  pub part : List ℕ
  pub session : ℕ

abbrev pub told : ℕ → Response → ℕ → List ℕ → ℕ → Told
told n r w p s = record { number = n; response = r; word = w; part = p; session = s }

abbrev pub told_of : Seen → Told
told_of x = told x.out.answer.number x.out.answer.response x.out.answer.word x.out.part x.out.answer.figures.session

-- accepted, and nothing else to tell; refused with no response
abbrev pub done : Told
done = told 0 Nothing 0 [] 0

abbrev pub refused_by : ℕ → Told
refused_by n = told n Nothing 0 [] 0

-- taken, with the session in which the access was accepted
abbrev pub gives : Response → ℕ → ℕ → Told
gives r w s = told 0 r w [] s

abbrev pub part : List ℕ → Told
part p = told 0 Nothing 0 p 0

abbrev pub ten_bytes : List ℕ
ten_bytes = 31 ∷ 32 ∷ 33 ∷ 34 ∷ 35 ∷ 36 ∷ 37 ∷ 38 ∷ 39 ∷ 40 ∷ []

abbrev pub answers : List Told
answers =
    done
    ∷ done ∷ done ∷ refused_by 14 ∷ done
    ∷ done ∷ refused_by 13 ∷ refused_by 13 ∷ part (0 ∷ 0 ∷ 0 ∷ 0 ∷ []) ∷ gives Slverr 0 1
    ∷ done ∷ done ∷ gives Slverr 0 1
    ∷ done ∷ done ∷ gives Slverr 0 1
    ∷ done ∷ done ∷ gives Decerr 0 1
    ∷ done ∷ done ∷ done ∷ refused_by 12 ∷ done ∷ part ten_bytes ∷ gives Okay 0 1
    ∷ done ∷ gives Okay 0 1
    ∷ done ∷ done ∷ part [] ∷ gives Okay 0x12345678 1
    ∷ done ∷ done ∷ done ∷ part (0 ∷ 0 ∷ 0 ∷ 0 ∷ []) ∷ gives Slverr 0 1
    ∷ done ∷ done ∷ part (51 ∷ 52 ∷ 53 ∷ 54 ∷ []) ∷ gives Okay 0 2
    ∷ []

-- the requests of a list of events, in the order of their numbers
abbrev pub asks : Held → List Event → List Ask
asks h [] = []
asks h (e ∷ es) = asked h e ++ asks (step h e).after es

-- ---- MET

pub record Met : Type 0 where
  pub far : FarSide sent begun events
  pub tags : map (λ (a : Ask). a.tag) (asks begun events) ≡ 0 ∷ 1 ∷ 2 ∷ 2 ∷ 2 ∷ 3 ∷ 2 ∷ 2 ∷ 0 ∷ []
  pub shown : map told_of (seen begun events) ≡ answers
  -- UR, not expected, timeout and poison, bits 20 to 23, and the link drop, bit 0
  pub decode : (registers_of (run begun events).bridge).decode ≡ 0x00F00001
