-- Places within a scan of some bytes.
use Rattle.std.proofs.Common.{◌≡◌, ◌+◌, ℕ, List, length, Bool, false, Option, Some, None}
use Rattle.c_tokens.specs.Lexing.{comment_length, escape_at}
use Rattle.c_tokens.specs.Fronts.{word_length, run_length, line_length}

pub record Words (text rest : List ℕ) (n : ℕ) : Type 0 where
  pub resumes : word_length text ≡ n + word_length rest
  pub place : n + length rest ≡ length text

pub record Runs (text rest : List ℕ) (after : Bool) (n : ℕ) : Type 0 where
  pub resumes : run_length false text ≡ n + run_length after rest
  pub place : n + length rest ≡ length text

pub record Lines (text rest : List ℕ) (n : ℕ) : Type 0 where
  pub resumes : line_length text ≡ n + line_length rest
  pub place : n + length rest ≡ length text

-- past n bytes
abbrev pub past : ℕ → Option ℕ → Option ℕ
past n None = None
past n (Some k) = Some (n + k)

pub record Comments (text rest : List ℕ) (n : ℕ) : Type 0 where
  pub resumes : comment_length text ≡ past n (comment_length rest)
  pub place : n + length rest ≡ length text

pub record Escapes (text rest : List ℕ) (n : ℕ) : Type 0 where
  pub resumes : escape_at text ≡ past n (escape_at rest)
  pub place : n + length rest ≡ length text
