-- How the faults of a log read. Assumes nothing.
use Rattle.std.specs.Prelude.{ℕ, List, ◌++◌, codes, decimal}
use Rattle.faults.specs.Texts.{ground_text}
use Rattle.records.specs.Texts.{record_words}
use Rattle.logs.specs.Faults.{log_ground}
use Rattle.logs.specs.declared.refusals.LogFault.{LogFault}
use Rattle.logs.specs.declared.refusals.LogFault.TheVariants.{Record, PollOutside, HeadOutside, PollFalls, HeadTwice}

-- what is wrong, after the ground
abbrev pub log_words : LogFault → List ℕ
log_words (Record fault) = record_words fault
log_words (PollOutside entry poll polls) = codes "its poll " ++ (decimal poll ++ (codes " is not below the " ++ (decimal polls ++ codes " polls")))
log_words (HeadOutside entry head heads) = codes "its head " ++ (decimal head ++ (codes " is not below the " ++ (decimal heads ++ codes " heads")))
log_words (PollFalls entry poll before) = codes "its poll " ++ (decimal poll ++ (codes " falls below " ++ (decimal before ++ codes ", the poll before")))
log_words (HeadTwice entry head poll) = codes "its head " ++ (decimal head ++ (codes " comes twice in poll " ++ decimal poll))

abbrev pub log_fault_text : LogFault → List ℕ
log_fault_text fault = ground_text (log_ground fault) ++ (codes ": " ++ log_words fault)
