use mathlib.Core.Path.{refl}
use Rattle.packets.proofs.Packets.{headed}
use Rattle.packets.proofs.head_of.Goals as goal

pub returns : goal.returns
returns c = rw (c.unwrap_or-length.ensures, c.write_request.ensures.0) (headed c.args.q _ c.write_request.new.area refl c.write_request.ensures.1)
