-- What the ends of a C text's runs print.
use Rattle.std.specs.Prelude.{ℕ, List, ◌++◌, codes, decimal}
use Rattle.runs.specs.declared.ran.End.{End}
use Rattle.runs.specs.declared.ran.End.TheVariants.{Done, Wrong, More}

-- the last line of a program's run, and its status
abbrev pub end_text : End → List ℕ
end_text (Done w) = codes "done " ++ decimal w
end_text Wrong = codes "wrong"
end_text More = codes "more"

abbrev pub end_status : End → ℕ
end_status (Done w) = 0
end_status Wrong = 3
end_status More = 4

-- an option of `run` or `interp` has none of its names
abbrev pub no_choice_text : List ℕ
no_choice_text = codes "fault 19 NoChoice"
