-- A list of calls on one store (Rules 6.1, 6.2): all under one set, and each on what the one before left. What a call answers and leaves
-- is what its entry's contract says.
use Rattle.std.specs.Prelude.{List, [], ◌∷◌, ℕ}
use Rattle.refusals.specs.Table.{Reply}
use Rattle.parameters.specs.declared.ParameterSet.{ParameterSet}
use Rattle.change_entries.specs.Replacement.{replace_reply, replaced}
use Rattle.push_entries.specs.Pushes.{push_reply, pushed}
use Rattle.history.specs.LeafBook.{Call, replacement, push}

-- the store after a list of calls, and their answers in order
pub record Ran : Type 0 where
  pub store : List ℕ
  pub answers : List Reply

module _ (s : ParameterSet) where
  unfoldable pub call_reply : Call → List ℕ → Reply
  call_reply (replacement q leaf) store = replace_reply s store q leaf
  call_reply (push rs) store = push_reply s store rs

  unfoldable pub call_store : Call → List ℕ → List ℕ
  call_store (replacement q leaf) store = replaced s store q leaf
  call_store (push rs) store = pushed s store rs

  unfoldable pub run : List Call → List ℕ → Ran
  run [] store = record { store = store; answers = [] }
  run (c ∷ cs) store =
      let rest = run cs (call_store c store) in
      record { store = rest.store; answers = call_reply c store ∷ rest.answers }
