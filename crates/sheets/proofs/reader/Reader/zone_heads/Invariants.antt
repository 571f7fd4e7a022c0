use Rattle.sheets.proofs.ZoneHeads.{Passing}
use Rattle.sheets.proofs.reader.Reader.zone_heads.Given as goal

abbrev pub invariant-loop-head : goal.invariant-loop-head
invariant-loop-head l = Passing l.at l.self.total l.self.heads.bits l.listed l.low l.head-index l.set.bits
