-- A float is spelled by its bits. Assumes nothing.
use Rattle.std.proofs.Common.{ap, ◌∙◌}
use Rattle.std.specs.Bool.{passes}
use lib.Ieee.{binary32, of_bits}
use lib.Ieee.Bits.{of_bits-to_bits}
use Rattle.texts.proofs.written.F32WrittenReading.to_word.Goals as goal

pub returns : goal.returns
returns c = ap (of_bits binary32) c.f32_to_bits_with_nan.ensures ∙ of_bits-to_bits binary32 c.args.self (passes _ c.well_formed.0.1)
