-- 01's refusal table ('Numbers on the refusal slip'): the numbers, the response and the change of each row, and for each call
-- the order in which its refusals are tried.
use Rattle.std.specs.Prelude.{ℕ, List, [], ◌∷◌, Bool, cond, eqb}
use Rattle.common.specs.Decode.{slave_unexpected_completion, slave_illegal_burst}
use Rattle.refusals.specs.declared.Response.{Response}
use Rattle.refusals.specs.declared.Response.TheVariants.{Nothing, Slverr, Decerr, Wait}

-- ---- the numbers

-- 'a setting breaks its rule'
abbrev pub setting : ℕ
setting = 1

-- 'no window holds the first byte'
abbrev pub no_window : ℕ
no_window = 2

-- 'burst type, size, beats or page wrong'
abbrev pub wrong_burst : ℕ
wrong_burst = 3

-- 'link down'
abbrev pub link_down : ℕ
link_down = 4

-- 'configuration access while its slot is not free; or memory read while a config read is open'
abbrev pub config_busy : ℕ
config_busy = 5

-- 'all 8 slots used'
abbrev pub slots_used : ℕ
slots_used = 6

-- 'fewer free tags than pieces'
abbrev pub few_tags : ℕ
few_tags = 7

-- 'sending area .., store .. or 16-byte area .. too short'
abbrev pub too_short : ℕ
too_short = 8

-- 'offset at or over 2^(20+n)'
abbrev pub offset_over : ℕ
offset_over = 9

-- 'bus not routed'
abbrev pub not_routed : ℕ
not_routed = 10

-- 'device not 0'; 'for the secondary bus only' (02, A4)
abbrev pub wrong_device : ℕ
wrong_device = 11

-- 'malformed completion or header'; a message that breaks its layout (02, A1)
abbrev pub malformed : ℕ
malformed = 12

-- 'not expected'
abbrev pub not_expected : ℕ
not_expected = 13

-- 'nothing finished there to take, or no such slot'
abbrev pub not_finished : ℕ
not_finished = 14

-- 'write data not the burst's length'
abbrev pub wrong_data : ℕ
wrong_data = 15

-- ---- the table

-- a row: its number, its response, and the decode bit that its change sets, if any
pub data Change : Type 0 where
  keeps : Change
  sets : ℕ → Change

pub record Row : Type 0 where
  pub number : ℕ
  pub response : Response
  pub change : Change

abbrev pub row : ℕ → Response → Change → Row
row n r c = record { number = n; response = r; change = c }

abbrev pub table : List Row
table =
    row setting Nothing keeps
    ∷ row no_window Decerr keeps
    ∷ row wrong_burst Slverr (sets slave_illegal_burst)
    ∷ row link_down Slverr keeps
    ∷ row config_busy Wait keeps
    ∷ row slots_used Wait keeps
    ∷ row few_tags Wait keeps
    ∷ row too_short Nothing keeps
    ∷ row offset_over Decerr keeps
    ∷ row not_routed Slverr keeps
    ∷ row wrong_device Slverr keeps
    ∷ row malformed Nothing keeps
    ∷ row not_expected Nothing (sets slave_unexpected_completion)
    ∷ row not_finished Nothing keeps
    ∷ row wrong_data Slverr keeps
    ∷ []

-- the row of a number; an accepted call, 0, changes nothing of itself
abbrev pub row_in : List Row → ℕ → Row
row_in [] n = row n Nothing keeps
row_in (r ∷ rest) n = cond (eqb n r.number) r (row_in rest n)

-- the response column, and 'response "none" where its row names neither an AXI response nor "wait"'
unfoldable pub refusal_response : ℕ → Response
refusal_response n = (row_in table n).response

abbrev pub change_of : ℕ → Change
change_of n = (row_in table n).change

-- ---- the orders

-- 'memory 8, 3, 2, 15, 4, 5, 6, 7': a read has no data
abbrev pub read_order : List ℕ
read_order = too_short ∷ wrong_burst ∷ no_window ∷ link_down ∷ config_busy ∷ slots_used ∷ few_tags ∷ []

-- 'writes skip 5 to 7'
abbrev pub write_order : List ℕ
write_order = too_short ∷ wrong_burst ∷ no_window ∷ wrong_data ∷ link_down ∷ []

-- 'configuration 8, 5, 9, 10, 11, 4, 7': 9, 10 or 11 is the number of the access's route
abbrev pub config_order : ℕ → List ℕ
config_order routed = too_short ∷ config_busy ∷ routed ∷ link_down ∷ few_tags ∷ []

-- 'completion 8, 12, 13'
abbrev pub completion_order : List ℕ
completion_order = too_short ∷ malformed ∷ not_expected ∷ []

-- 'take 8, 14'
abbrev pub take_order : List ℕ
take_order = too_short ∷ not_finished ∷ []

-- 'tick, link 8'
abbrev pub store_order : List ℕ
store_order = too_short ∷ []

-- 'headers 8, 12'
abbrev pub header_order : List ℕ
header_order = too_short ∷ malformed ∷ []

-- an error message: 'breaks its layout gets 12, any other that comes with the link down gets 4' (02, A1)
abbrev pub message_order : List ℕ
message_order = malformed ∷ link_down ∷ []

-- the first number of an order whose test holds, and 0 where none does
abbrev pub refused_by : List ℕ → List Bool → ℕ
refused_by [] tests = 0
refused_by (n ∷ rest) [] = 0
refused_by (n ∷ rest) (t ∷ tests) = cond t n (refused_by rest tests)
