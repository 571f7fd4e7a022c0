-- How the faults of a watch read. Assumes nothing.
use Rattle.std.specs.Prelude.{ℕ, List, ◌++◌, codes, decimal}
use Rattle.faults.specs.Texts.{ground_text}
use Rattle.watches.specs.Faults.{watch_ground}
use Rattle.watches.specs.declared.refusals.WatchFault.{WatchFault}
use Rattle.watches.specs.declared.refusals.WatchFault.TheVariants.{TooFewCells, Full, PastTheEnd, NoReading, Unlawful}

-- what is wrong, after the ground
abbrev pub watch_words : WatchFault → List ℕ
watch_words (TooFewCells need lent) = decimal lent ++ (codes " cells, where the rule needs " ++ decimal need)
watch_words Full = codes "the watch has all the rows that it can take"
watch_words (PastTheEnd poll horizon polls) =
    codes "poll " ++ (decimal poll ++ (codes " looks " ++ (decimal horizon ++ (codes " polls ahead, where the record has " ++ (decimal polls ++ codes " polls")))))
watch_words (NoReading head poll) = codes "the head has no reading at the poll"
watch_words (Unlawful head poll) = codes "the reading is unlawful on the scale"

abbrev pub watch_fault_text : WatchFault → List ℕ
watch_fault_text fault = ground_text (watch_ground fault) ++ (codes ": " ++ watch_words fault)
