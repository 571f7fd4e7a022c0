-- What a job may not ask for. Assumes nothing.
use Rattle.std.specs.Prelude.{Bool, false, ◌||◌, nat_eq}
use Rattle.std.specs.Cmp.Lexicographic.{pointwise}
use Rattle.soak.specs.declared.command.Job.{Job}
use Rattle.soak.specs.declared.command.Task.{Task}
use Rattle.soak.specs.declared.command.Task.TheVariants.{Report, Margins, Plot}

-- a picture under the name of the sheet or of the readings
abbrev pub task_is_over_input : Task → Job → Bool
task_is_over_input Report job = false
task_is_over_input (Margins rule) job = false
task_is_over_input (Plot rule picture) job = pointwise nat_eq picture.now job.sheet.now || pointwise nat_eq picture.now job.readings.now

abbrev pub is_over_input : Job → Bool
is_over_input job = task_is_over_input job.task job
