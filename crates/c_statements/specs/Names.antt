-- What the names in sight stand for (C99 6.2.1).
use Rattle.std.specs.Prelude.{ℕ, suc, ◌+◌, List, [], ◌∷◌, Option, Some, None, if◌then◌else◌, bytes_eq}
use Rattle.c_tokens.specs.declared.token.Identifier.{Identifier}
use Rattle.c_tokens.specs.declared.token.IntegerType.{IntegerType}
use Rattle.c_tree.specs.Texts.{spelling_of}
use Rattle.c_tree.specs.Tree.{Statement, block, if_then, if_then_else, while_loop, for_loop}
use Rattle.c_tree.specs.Tree.{Item, declare, statement, Items, no_items, more_items}
use Rattle.c_statements.specs.declared.names.Named.{Named}
use Rattle.c_statements.specs.declared.names.Named.TheVariants.{Local}

-- the declaration that a name at a place means, if one is in sight there
abbrev pub Environment : Type 0
Environment = Identifier → Option Named

-- what the names of one scope stand for, by their spelling
abbrev pub Bindings : Type 0
Bindings = List ℕ → Option Named

abbrev pub spelling_in : List ℕ → Identifier → List ℕ
spelling_in text x = spelling_of text x.at x.length

-- a declaration in an inner scope hides those in the scopes around
abbrev pub hides : Option Named → Option Named → Option Named
hides (Some m) around = Some m
hides None around = around

abbrev pub nothing : Bindings
nothing w = None

abbrev pub with_name : Bindings → List ℕ → Named → Bindings
with_name names x m = λ w. if bytes_eq x w then Some m else names w

-- the innermost scope so far, the scopes around it from the inside out, and how many locals the function has declared
pub record Scopes : Type 0 where
  pub inner : Bindings
  pub around : List Bindings
  pub locals : ℕ

abbrev pub binding_in : List Bindings → Bindings
binding_in [] w = None
binding_in (m ∷ rest) w = hides (m w) (binding_in rest w)

abbrev pub named_in : Scopes → Bindings
named_in s = binding_in (s.inner ∷ s.around)

abbrev pub environment_in : List ℕ → Scopes → Environment
environment_in text s x = named_in s (spelling_in text x)

-- at the beginning of a block
abbrev pub within : Scopes → Scopes
within s = record { inner = nothing; around = s.inner ∷ s.around; locals = s.locals }

abbrev pub without_first : List Bindings → Scopes → Scopes
without_first [] s = s
without_first (m ∷ rest) s = record { inner = m; around = rest; locals = s.locals }

-- after the end of a block
abbrev pub outside : Scopes → Scopes
outside s = without_first s.around s

abbrev pub no_scopes : Scopes
no_scopes = record { inner = nothing; around = []; locals = 0 }

-- at the beginning of a function
abbrev pub without_locals : Scopes → Scopes
without_locals s = record { inner = s.inner; around = s.around; locals = 0 }

-- after a declarator
abbrev pub with_spelling : Scopes → List ℕ → Named → Scopes
with_spelling s x m = record { inner = with_name s.inner x m; around = s.around; locals = s.locals }

abbrev pub with_declared : List ℕ → Scopes → Identifier → Named → Scopes
with_declared text s x m = with_spelling s (spelling_in text x) m

-- after the declarator of a local, which has the next number
abbrev pub with_local : List ℕ → Scopes → IntegerType → Identifier → Scopes
with_local text s k x = record {
  inner = with_name s.inner (spelling_in text x)
      (Local s.locals k);
  around = s.around;
  locals = suc s.locals;
}

-- how many locals a statement declares
abbrev mutual
  pub declared_in : Statement → ℕ
  declared_in (block all) = declared_in_all all
  declared_in (if_then c s) = declared_in s
  declared_in (if_then_else c s t) = declared_in s + declared_in t
  declared_in (while_loop c s) = declared_in s
  declared_in (for_loop f c l s) = declared_in s
  declared_in _ = 0

  pub declared_by : Item → ℕ
  declared_by (declare k x v) = 1
  declared_by (statement s) = declared_in s

  pub declared_in_all : Items → ℕ
  declared_in_all no_items = 0
  declared_in_all (more_items i rest) = declared_by i + declared_in_all rest

-- after a statement its names are out of sight, but its locals count
abbrev pub behind : Scopes → Statement → Scopes
behind sc s = record { inner = sc.inner; around = sc.around; locals = sc.locals + declared_in s }

abbrev pub behind_item : List ℕ → Scopes → Item → Scopes
behind_item text sc (declare k x v) = with_local text sc k x
behind_item text sc (statement s) = behind sc s

abbrev pub behind_items : List ℕ → Scopes → Items → Scopes
behind_items text sc no_items = sc
behind_items text sc (more_items i rest) = behind_items text (behind_item text sc i) rest
