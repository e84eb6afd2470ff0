-- What a call reports to the AXI side: for each case of the enum, 01's word and its number.
use Rattle.std.specs.Prelude.{ℕ}
use Rattle.refusals.specs.declared.Response.{Response}
use Rattle.refusals.specs.declared.Response.TheVariants.{Nothing, Okay, Slverr, Decerr, Wait}

-- 'OKAY', 'SLVERR' and 'DECERR' by AXI4's coding of RRESP and BRESP (1 is EXOKAY, which nothing here gives). '"none"' and
-- '"wait"' are no responses of the bus: their numbers lie past its two bits
abbrev pub code_of : Response → ℕ
code_of Okay = 0
code_of Slverr = 2
code_of Decerr = 3
code_of Nothing = 4
code_of Wait = 5

-- the numbers by which a slot keeps its response
abbrev pub okay : ℕ
okay = code_of Okay

abbrev pub slverr : ℕ
slverr = code_of Slverr

abbrev pub decerr : ℕ
decerr = code_of Decerr
