-- How a refusal reads. Assumes nothing.
use Rattle.std.specs.Prelude.{ℕ, List, ◌++◌, codes, decimal}
use Rattle.records.specs.Model.{most_polls}
use Rattle.texts.specs.declared.refusals.Defect.{Defect}
use Rattle.texts.specs.declared.refusals.Defect.TheVariants.{EmptyFile, Missing, NotWhole, NotDecimal, NotNatural, OffSteps, OutOfRange, TooFew, TooMany, TooManyLines, NotLog}
use Rattle.texts.specs.declared.refusals.TextFault.{TextFault}
use Rattle.texts.specs.declared.refusals.ReadError.{ReadError}
use Rattle.texts.specs.declared.refusals.ReadError.TheVariants.{Text, Memory}

-- what is wrong
abbrev pub defect_text : Defect → List ℕ
defect_text EmptyFile = codes "the file is empty"
defect_text Missing = codes "a number is missing"
defect_text NotWhole = codes "this is no whole number"
defect_text NotDecimal = codes "this is no decimal number"
defect_text NotNatural = codes "this is no whole number from 0 on"
defect_text OffSteps = codes "this number is not a multiple of 1/256"
defect_text OutOfRange = codes "this number is out of range"
defect_text (TooFew wanted) = codes "the line ends before its " ++ (decimal wanted ++ codes " fields")
defect_text (TooMany wanted) = codes "the line goes on behind its " ++ (decimal wanted ++ codes " fields")
defect_text TooManyLines = codes "a grid has at most " ++ (decimal most_polls ++ codes " lines")
defect_text NotLog = codes "the first line of a log begins with the word log"

-- as "line 3, column 7: this is no whole number"
abbrev pub fault_text : TextFault → List ℕ
fault_text fault = codes "line " ++ (decimal fault.line ++ (codes ", column " ++ (decimal fault.column ++ (codes ": " ++ defect_text fault.defect))))

abbrev pub error_text : ReadError → List ℕ
error_text (Text fault) = fault_text fault
error_text Memory = codes "there is no memory left"
