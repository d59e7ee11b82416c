-- The command line of `mcc`, and what its words ask for.
use Rattle.std.specs.Prelude.{◌≡◌, ◌<◌, ◌≤◌, ◌^◌, ℕ, List, [], ◌∷◌, length, map, Option, Some, None, Bool, true, false, codes, option_map}
use Rattle.std.specs.Str.Parse.{IsNumeral, digits_value, without_leading_plus}
use Rattle.clap.specs.Words.{App, Row, Rule, Text, all_of, first_of, one_of, new_app, new_rule, subcommand_of, with_rule, with_subcommand}
use Rattle.clap.specs.declared.builder.ArgAction.TheVariants.{Append, Set, SetTrue}
use Rattle.clap.specs.declared.builder.value_parser.ValueParser.TheVariants as parsers
use Rattle.term_table.specs.declared.limits.TheConstants.{MAX_PASSES, MAX_NODES, MAX_HEADS}
use Rattle.host.specs.declared.numbers.WordForm.{WordForm}
use Rattle.host.specs.declared.numbers.WordForm.TheVariants as forms
use Rattle.command_line.specs.declared.command.Choice.{Choice}
use Rattle.command_line.specs.declared.command.Choice.TheVariants as choices
use Rattle.command_line.specs.declared.command.Level.{Level}
use Rattle.command_line.specs.declared.command.Level.TheVariants as levels
use Rattle.command_line.specs.declared.command.Command.{Command}
use Rattle.command_line.specs.declared.command.Command.TheVariants.{Check, CheckEach, Interp, Build, Run, List as Listing, NoChoice, Show}

-- an argument by its place, which must be there
abbrev pub required_rule : Text → Rule
required_rule id = record (new_rule id) { required = true; action = Some Set }

-- arguments by their place, one or more
abbrev pub several_rule : Text → Rule
several_rule id = record (new_rule id) { required = true; action = Some Append }

-- `--id N` with N from low to high
abbrev pub number_rule : Text → ℕ → ℕ → Rule
number_rule id low high = record (new_rule id) { long = Some id; action = Some Set; parser = Some (parsers.Unsigned low high) }

-- `--id`, which is there or not
abbrev pub flag_rule : Text → Rule
flag_rule id = record (new_rule id) { long = Some id; action = Some SetTrue }

-- `--id TEXT`
abbrev pub text_rule : Text → Rule
text_rule id = record (new_rule id) { long = Some id; action = Some Set }

-- a command that is nothing without a subcommand
abbrev pub with_required_subcommand : App → App
with_required_subcommand a = record a { top = record a.top { subcommand_required = true } }

-- a command that has a version
abbrev pub with_version : App → App
with_version a = record a { top = record a.top { has_version = true } }

abbrev pub check_app : App
check_app = with_rule (with_rule (new_app (codes "check")) (several_rule (codes "FILE"))) (flag_rule (codes "explain"))

abbrev pub interp_app : App
interp_app = with_rule (with_rule (with_rule (with_rule (with_rule (with_rule (new_app (codes "interp"))
    (required_rule (codes "SOURCE"))) (number_rule (codes "depth") 1 4096)) (number_rule (codes "steps") 0 4294967295))
    (text_rule (codes "at"))) (text_rule (codes "as"))) (flag_rule (codes "count"))

abbrev pub build_app : App
build_app = with_rule (with_rule (with_rule (with_rule (with_rule (with_rule (with_rule (new_app (codes "build"))
    (required_rule (codes "SOURCE"))) (required_rule (codes "IMAGE"))) (flag_rule (codes "plain")))
    (number_rule (codes "depth") 1 4096)) (number_rule (codes "workers") 1 MAX_PASSES))
    (number_rule (codes "nodes") 1 MAX_NODES)) (number_rule (codes "heads") 1 MAX_HEADS)

abbrev pub run_app : App
run_app = with_rule (with_rule (with_rule (with_rule (new_app (codes "run")) (required_rule (codes "IMAGE")))
    (number_rule (codes "steps") 0 4294967295)) (text_rule (codes "as"))) (flag_rule (codes "count"))

abbrev pub list_app : App
list_app = with_rule (with_rule (new_app (codes "list")) (required_rule (codes "IMAGE"))) (flag_rule (codes "asm"))

abbrev pub show_app : App
show_app = with_rule (with_rule (with_rule (with_rule (with_rule (new_app (codes "show")) (required_rule (codes "SOURCE")))
    (text_rule (codes "stage"))) (text_rule (codes "function"))) (number_rule (codes "block") 0 1048575)) (flag_rule (codes "dot"))

-- `mcc`: one of its commands must be given
abbrev pub mcc_app : App
mcc_app = with_subcommand (with_subcommand (with_subcommand (with_subcommand (with_subcommand (with_subcommand
    (with_version (with_required_subcommand (new_app (codes "mcc")))) check_app.top) interp_app.top) build_app.top) run_app.top)
    list_app.top) show_app.top

-- the number that the text gives, or the default where there is no text
abbrev pub IsNumber : Option Text → ℕ → ℕ → Type 0
IsNumber None default n = n ≡ default
IsNumber (Some text) default n = IsNumeral 10 (without_leading_plus text) × (digits_value 10 (without_leading_plus text) ≡ n)

-- the same from low to high
abbrev pub IsBounded : Option Text → (default low high : ℕ) → ℕ → Type 0
IsBounded given default low high n = IsNumber given default n × (low ≤ n) × (n ≤ high)

-- a flag that the text gives, or that isn't there
abbrev pub IsFlag : Option Text → Bool → Type 0
IsFlag given b = (given ≡ None → b ≡ false) × (given ≡ Some (codes "true") → b ≡ true) × (given ≡ Some (codes "false") → b ≡ false)

-- the number that the text gives, if there is a text
abbrev pub IsMaybeNumber : Option Text → Option ℕ → Type 0
IsMaybeNumber given None = given ≡ None
IsMaybeNumber given (Some n) = (text : Text) × (given ≡ Some text) × IsNumeral 10 (without_leading_plus text)
    × (digits_value 10 (without_leading_plus text) ≡ n)

-- the names of the forms and of the levels
abbrev pub form_name : WordForm → Text
form_name forms.Unsigned = codes "unsigned"
form_name forms.Signed = codes "signed"
form_name forms.Hex = codes "hex"

abbrev pub level_name : Level → Text
level_name levels.C = codes "c"
level_name levels.Rtl = codes "rtl"
level_name levels.Blocks = codes "blocks"

-- what the text names, or the default where there is no text
abbrev pub IsNamed : {A : Type 0} → (A → Text) → A → Option Text → A → Type 0
IsNamed name default None a = a ≡ default
IsNamed name default (Some text) a = text ≡ name a

-- the option of a choice, and a text that is none of its names
abbrev pub choice_id : Choice → Text
choice_id choices.Form = codes "as"
choice_id choices.Level = codes "at"

abbrev pub NamesNone : Choice → Text → Type 0
NamesNone choices.Form text = (form : WordForm) → text ≡ form_name form → ⊥
NamesNone choices.Level text = (level : Level) → text ≡ level_name level → ⊥

-- the option of the choice has a value that is none of its names
abbrev pub IsNoChoice : Choice → List Row → Text → Type 0
IsNoChoice choice rows value = (first_of (choice_id choice) rows ≡ Some value) × NamesNone choice value

-- the command's name, and the values that its arguments have
abbrev pub HasValues : Text → List Row → Command → Type 0
HasValues name rows (Check file explain) =
    (name ≡ codes "check") × (all_of (codes "FILE") rows ≡ Some (file.now ∷ [])) × IsFlag (one_of (codes "explain") rows) explain
HasValues name rows (CheckEach files explain) =
    (name ≡ codes "check") × (all_of (codes "FILE") rows ≡ Some (map (λ s. s.now) files.items)) × (2 ≤ length files.items)
    × IsFlag (one_of (codes "explain") rows) explain
HasValues name rows (Interp r) =
    (name ≡ codes "interp") × (first_of (codes "SOURCE") rows ≡ Some r.source.now)
    × IsBounded (one_of (codes "depth") rows) 256 1 4096 r.depth
    × IsNumber (one_of (codes "steps") rows) 1000000 r.steps × (r.steps < 2 ^ 32)
    × IsNamed level_name levels.C (first_of (codes "at") rows) r.level
    × IsNamed form_name forms.Unsigned (first_of (codes "as") rows) r.form
    × IsFlag (one_of (codes "count") rows) r.count
HasValues name rows (Build b) =
    (name ≡ codes "build") × (first_of (codes "SOURCE") rows ≡ Some b.source.now) × (first_of (codes "IMAGE") rows ≡ Some b.image.now)
    × IsFlag (one_of (codes "plain") rows) b.plain
    × IsBounded (one_of (codes "depth") rows) 256 1 4096 b.depth
    × IsBounded (one_of (codes "workers") rows) 4 1 MAX_PASSES b.workers
    × IsBounded (one_of (codes "nodes") rows) 65536 1 MAX_NODES b.nodes
    × IsBounded (one_of (codes "heads") rows) 1024 1 MAX_HEADS b.heads
HasValues name rows (Run r) =
    (name ≡ codes "run") × (first_of (codes "IMAGE") rows ≡ Some r.image.now)
    × IsNumber (one_of (codes "steps") rows) 1000000 r.steps × (r.steps < 2 ^ 32)
    × IsNamed form_name forms.Unsigned (first_of (codes "as") rows) r.form
    × IsFlag (one_of (codes "count") rows) r.count
HasValues name rows (Listing image asm) =
    (name ≡ codes "list") × (first_of (codes "IMAGE") rows ≡ Some image.now) × IsFlag (one_of (codes "asm") rows) asm
HasValues name rows (Show source stage function block dot) =
    (name ≡ codes "show") × (first_of (codes "SOURCE") rows ≡ Some source.now)
    × (first_of (codes "stage") rows ≡ option_map (λ s. s.now) stage)
    × (first_of (codes "function") rows ≡ option_map (λ s. s.now) function)
    × IsMaybeNumber (one_of (codes "block") rows) block
    × IsFlag (one_of (codes "dot") rows) dot
HasValues name rows (NoChoice choice value) = IsNoChoice choice rows value.now

-- the subcommand and its values are clap's matches of the words
abbrev pub IsCommand : List Text → Command → Type 0
IsCommand words w = (name : Text) × (rows : List Row) × (subcommand_of mcc_app words ≡ Some (name, rows)) × HasValues name rows w
