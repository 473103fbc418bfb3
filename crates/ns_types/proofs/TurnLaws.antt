-- Lists that grow at their end and keep what is said of each element.
use Rattle.std.proofs.Common.{ℕ, ◌+◌, ◌<◌, List, [], ◌∷◌, ◌++◌, sym, subst, length, slice_index_or}
use Rattle.std.specs.Prelude.{take}
use Rattle.std.proofs.lemmas.List.{take_more}
use Rattle.ns_types.specs.declared.turn.Item.{Item}
use Rattle.ns_types.specs.Turns.{Turn, IsWord, AreWords, IsItem, AreItems, IsTurn, AreTurns}

word_last : (ns : List ℕ) (n : ℕ) → AreWords ns → IsWord n → AreWords (ns ++ n ∷ [])
word_last [] n many one = (one, tt)
word_last (m ∷ ns) n many one = (many.0, word_last ns n many.1 one)

item_last : (is : List Item) (i : Item) → AreItems is → IsItem i → AreItems (is ++ i ∷ [])
item_last [] i many one = (one, tt)
item_last (j ∷ is) i many one = (many.0, item_last is i many.1 one)

turn_last : (ts : List Turn) (t : Turn) → AreTurns ts → IsTurn t → AreTurns (ts ++ t ∷ [])
turn_last [] t many one = (one, tt)
turn_last (u ∷ ts) t many one = (many.0, turn_last ts t many.1 one)

pub more_words : (ns : List ℕ) (k d : ℕ) → k < length ns → AreWords (take k ns) → IsWord (slice_index_or ns k d) → AreWords (take (k + 1) ns)
more_words ns k d lt many one = subst (λ l. AreWords l) (sym (take_more ns k d lt)) (word_last (take k ns) (slice_index_or ns k d) many one)

pub more_items : (is : List Item) (k : ℕ) (d : Item) → k < length is → AreItems (take k is) → IsItem (slice_index_or is k d) → AreItems (take (k + 1) is)
more_items is k d lt many one = subst (λ l. AreItems l) (sym (take_more is k d lt)) (item_last (take k is) (slice_index_or is k d) many one)

pub more_turns : (ts : List Turn) (k : ℕ) (d : Turn) → k < length ts → AreTurns (take k ts) → IsTurn (slice_index_or ts k d) → AreTurns (take (k + 1) ts)
more_turns ts k d lt many one = subst (λ l. AreTurns l) (sym (take_more ts k d lt)) (turn_last (take k ts) (slice_index_or ts k d) many one)
