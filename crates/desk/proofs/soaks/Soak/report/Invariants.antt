use Rattle.std.proofs.Common.{◌≡◌, drop}
use Rattle.desk.specs.Rows.{sheet_fault}
use Rattle.desk.proofs.ReportLaws.{Reported}
use Rattle.desk.proofs.soaks.Soak.report.Given as goal

abbrev pub invariant-loop-place : goal.invariant-loop-place
invariant-loop-place g l =
    (sheet_fault (g.S.Scale.model l.self.scale) l.places (g.R.Record.model l.self.«record».now) ≡ sheet_fault (g.S.Scale.model l.self.scale) (drop l.place-index l.places) (g.R.Record.model l.self.«record».now))
    × Reported g.W.Write.write_str_gives (g.S.Scale.model l.self.scale) g.S.Measured.told_in l.places (g.R.Record.model l.self.«record».now) l.place-index l.smallest l.initial.out l.out
