-- How a note is made of its field.
use Rattle.std.specs.Prelude.{◌≡◌, []}
use Rattle.term_table.specs.declared.view.View.TheVariants.{Note}
use Rattle.term_table.specs.declared.note.Note.TheInside.{Inside}
use Rattle.term_table.specs.Calls.{told_of}
use Rattle.term_table.specs.Passes.{NoteState}

abbrev pub note_state : Inside → NoteState
note_state a = record { table = a.seat.table_id; seen = told_of a.seat.me.0 }

-- the seat is a note's
abbrev pub IsNote : Inside → Type 0
IsNote a = a.seat.me ≡ (Note (told_of a.seat.me.0), [])
