-- Passes and words, and the single steps: S1 loads a link. S2 loads a content word. S3 stores a content word of a node of one's own that
-- isn't linked. S4 exchanges a link from none to one's own node.
use Rattle.std.specs.Prelude.{ℕ, zero, suc, ◌+◌, ◌-◌, ◌*◌, ◌<◌, ◌==◌, ◌&&◌, Bool, true, false, cond, List, [], ◌∷◌, ◌++◌, length, take, max}
use Rattle.std.specs.Prelude.{slice_index, slice_set, replicate}
use mathlib.Core.Option.{Option, some, none}
use lib.ListN.{get_elem?}
use prog.Atomic.{either}
use Rattle.term_core.specs.declared.TheConstants.{NODE_WORDS, LAST_WORD}
use Rattle.term_core.specs.declared.Call.{Call}
use Rattle.term_core.specs.declared.Call.TheVariants.{Intern, Find, Read}
use Rattle.term_core.specs.declared.Answer.{Answer}
use Rattle.term_core.specs.declared.Answer.TheVariants.{Ticket, Full, Found, Missing, Node}
use Rattle.term_core.specs.declared.Entry.{Entry}
use Rattle.term_core.specs.declared.Stage.{Stage}
use Rattle.term_core.specs.declared.Stage.TheVariants.{Idle, Looking, AtLink, AtContent, Writing, Linking, Reading}
use Rattle.term_core.specs.declared.Walker.{Walker}
use Rattle.term_core.specs.Terms.{occurs}

pub record Shape : Type 0 where
  pub workers : ℕ
  pub nodes : ℕ
  pub heads : ℕ
  pub chain : ℕ → List ℕ → ℕ

-- each call walks a chain that there is, by its label's word and its child tickets
abbrev pub IsShape : Shape → Type 0
IsShape s = (0 < s.heads) × ((label : ℕ) (kids : List ℕ) → s.chain label kids < s.heads)

-- where the words of the node n begin: its link, then its content words
abbrev pub link_of : Shape → ℕ → ℕ
link_of s n = s.heads + NODE_WORDS * n

-- how many words there are: a link for each chain, and the words of each node
abbrev pub word_count : Shape → ℕ
word_count s = s.heads + NODE_WORDS * (s.workers * s.nodes)

-- a child's ticket and one, or none
abbrev pub kid_word : List ℕ → ℕ → ℕ
kid_word [] i = 0
kid_word (k ∷ ks) zero = suc k
kid_word (k ∷ ks) (suc i) = kid_word ks i

abbrev pub content_of : ℕ → List ℕ → List ℕ
content_of label kids = label ∷ kid_word kids 0 ∷ kid_word kids 1 ∷ kid_word kids 2 ∷ []

abbrev pub content : Call → List ℕ
content (Intern label kids) = content_of label kids
content (Find label kids) = content_of label kids
content (Read t) = []

abbrev pub kid_in : ℕ → List ℕ → List ℕ
kid_in zero ks = ks
kid_in (suc k) ks = k ∷ ks

-- the children that the content words of a node say
abbrev pub kids_in : List ℕ → List ℕ
kids_in words = kid_in (slice_index words 1) (kid_in (slice_index words 2) (kid_in (slice_index words 3) []))

-- what they say
abbrev pub answer_of : List ℕ → Answer
answer_of words = Node (slice_index words 0) (kids_in words)

abbrev pub all_occur : List Entry → List ℕ → Bool
all_occur h [] = true
all_occur h (t ∷ ts) = occurs h t && all_occur h ts

abbrev pub at_most_three : List ℕ → Bool
at_most_three (a ∷ b ∷ c ∷ d ∷ ks) = false
at_most_three _ = true

-- the caller's condition
abbrev pub may_begin : List Entry → Call → Bool
may_begin h (Intern label kids) = at_most_three kids && all_occur h kids
may_begin h (Find label kids) = at_most_three kids && all_occur h kids
may_begin h (Read t) = occurs h t

-- what a pass between calls does next
pub data Choice : Type 0 where
  begins : Call → Choice
  looks : ℕ → Choice

pub record Item : Type 0 where
  pub by : ℕ
  pub choice : Choice

abbrev pub first_stage : Shape → Call → Stage
first_stage s (Intern label kids) = AtLink (Intern label kids) false (s.chain label kids)
first_stage s (Find label kids) = AtLink (Find label kids) false (s.chain label kids)
first_stage s (Read t) = Reading t []

abbrev pub call_start : Shape → Choice → Walker → Walker
call_start s (begins c) v = cond (may_begin v.seen c) (record v { stage = first_stage s c; probes = 0 }) v
call_start s (looks n) v = record v { stage = Looking n }

-- a pass between calls begins what was chosen
abbrev pub step_start_at : Shape → Choice → Walker → Stage → Walker
step_start_at s choice v Idle = call_start s choice v
step_start_at s choice v stage = v

abbrev pub step_start : Shape → Choice → Walker → Walker
step_start s choice v = step_start_at s choice v v.stage

abbrev pub is_idle : Stage → Bool
is_idle Idle = true
is_idle stage = false

-- the kinds of step
pub data Kind : Type 0 where
  load_link : Kind
  load_content : Kind
  store_content : Kind
  exchange_link : Kind

abbrev pub kind : Stage → Kind
kind Idle = load_link
kind (Looking n) = load_link
kind (AtLink c w a) = load_link
kind (AtContent c w n i) = load_content
kind (Writing c a i) = store_content
kind (Linking c a) = exchange_link
kind (Reading t xs) = load_content

-- the word of the next step
abbrev pub place_at : Shape → Walker → Stage → ℕ
place_at s v Idle = 0
place_at s v (Looking n) = 0
place_at s v (AtLink c w a) = a
place_at s v (AtContent c w n i) = link_of s n + 1 + i
place_at s v (Writing c a i) = link_of s v.own + 1 + i
place_at s v (Linking c a) = a
place_at s v (Reading t xs) = link_of s t + 1 + length xs

abbrev pub place : Shape → Walker → ℕ
place s v = place_at s v v.stage

-- what the word becomes, from what was found
abbrev pub becomes_at : Walker → Stage → ℕ → ℕ
becomes_at v Idle n = n
becomes_at v (Looking k) n = n
becomes_at v (AtLink c w a) n = n
becomes_at v (AtContent c w k i) n = n
becomes_at v (Writing c a i) n = slice_index (content c) i
becomes_at v (Linking c a) n = either (n == 0) (suc v.own) n
becomes_at v (Reading t xs) n = n

abbrev pub becomes : Walker → ℕ → ℕ
becomes v = becomes_at v v.stage

-- a pass after a step, and the entry that the step adds to the history
pub record Turn : Type 0 where
  pub walker : Walker
  pub said : List Entry

abbrev pub goes : Walker → Stage → Turn
goes v stage = record { walker = record v { stage = stage }; said = [] }

abbrev pub entry : Walker → Call → Answer → Entry
entry v c a = record { by = v.by; call = c; answer = a }

-- the call ends, and is one entry more
abbrev pub ends : List Entry → Walker → Call → Answer → Turn
ends h v c a =
    record { walker = record v { stage = Idle; seen = h ++ entry v c a ∷ []; mine = v.mine ++ entry v c a ∷ [] }; said = entry v c a ∷ [] }

abbrev pub turn_without_node : List Entry → Walker → Call → Bool → ℕ → Turn
turn_without_node h v (Intern label kids) w a =
    cond (v.room == 0) (ends h v (Intern label kids) Full) (goes v
    (cond w (Linking (Intern label kids) a) (Writing (Intern label kids) a 0)))
turn_without_node h v (Find label kids) w a = ends h v (Find label kids) Missing
turn_without_node h v (Read t) w a = goes v Idle

abbrev pub hit : Call → ℕ → Answer
hit (Intern label kids) n = Ticket n
hit (Find label kids) n = Found n
hit (Read t) n = Missing

-- the link word: none, or a node and one
abbrev pub follows : List Entry → Walker → Call → Bool → ℕ → ℕ → Turn
follows h v c w a zero = turn_without_node h v c w a
follows h v c w a (suc n) = goes v (AtContent c w n 0)

abbrev pub turn_of_exchange : List Entry → Walker → Call → ℕ → ℕ → Turn
turn_of_exchange h v c a zero = ends h (record v { own = suc v.own; room = v.room - 1 }) c (Ticket v.own)
turn_of_exchange h v c a (suc n) = goes v (AtContent c true n 0)

-- a pass after its next step, which found the number n
abbrev pub turn_at : Shape → List Entry → ℕ → Walker → Stage → Turn
turn_at s h n v Idle = goes v Idle
turn_at s h n v (Looking k) = record { walker = record v { stage = Idle; seen = take (max k (length v.seen)) h }; said = [] }
turn_at s h n v (AtLink c w a) = follows h (record v { probes = suc v.probes }) c w a n
turn_at s h n v (AtContent c w k i) =
    cond (n == slice_index (content c) i) (cond (i == LAST_WORD) (ends h v c (hit c k)) (goes v (AtContent c w k (suc i))))
    (goes v (AtLink c w (link_of s k)))
turn_at s h n v (Writing c a i) = goes v (cond (i == LAST_WORD) (Linking c a) (Writing c a (suc i)))
turn_at s h n v (Linking c a) = turn_of_exchange h v c a n
turn_at s h n v (Reading t xs) = cond (length xs == LAST_WORD) (ends h v (Read t) (answer_of (xs ++ n ∷ [])))
    (goes v (Reading t (xs ++ n ∷ [])))

abbrev pub turn : Shape → List Entry → ℕ → Walker → Turn
turn s h n v = turn_at s h n v v.stage

pub record World : Type 0 where
  pub words : List ℕ
  pub passes : List Walker
  pub history : List Entry

-- the next single step of a pass that is inside a call
abbrev pub steps : Shape → World → ℕ → Walker → World
steps s w by v =
    let n = slice_index w.words (place s v) in
    let t = turn s w.history n v in
    record { words = slice_set w.words (place s v) (becomes v n); passes = slice_set w.passes by t.walker; history = w.history ++ t.said }

abbrev pub acts : Shape → World → ℕ → Walker → World
acts s w by v = cond (is_idle v.stage) w (steps s w by v)

abbrev pub does : Shape → World → Item → Option Walker → World
does s w item none = w
does s w item (some v) = acts s w item.by (step_start s item.choice v)

abbrev pub step : Shape → World → Item → World
step s w item = does s w item (get_elem? w.passes item.by)

abbrev pub world_after : Shape → World → List Item → World
world_after s w [] = w
world_after s w (i ∷ is) = world_after s (step s w i) is

abbrev pub fresh : Shape → ℕ → Walker
fresh s by = record { by = by; own = by * s.nodes; room = s.nodes; seen = []; mine = []; probes = 0; stage = Idle }

-- the passes from the number `by` on
abbrev pub fresh_from : Shape → ℕ → ℕ → List Walker
fresh_from s by zero = []
fresh_from s by (suc n) = fresh s by ∷ fresh_from s (suc by) n

abbrev pub start : Shape → World
start s = record { words = replicate (word_count s) 0; passes = fresh_from s 0 s.workers; history = [] }

-- the world that a list of items reaches
abbrev pub world_of : Shape → List Item → World
world_of s items = world_after s (start s) items
