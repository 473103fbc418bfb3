-- Names, settings, values and items, one by one.
use Rattle.std.proofs.Common.{◌≡◌, ℕ, suc, ◌+◌, ◌<◌, ◌≤◌, Bool, true, false, cond, List, [], ◌∷◌, ◌++◌, length, drop, get_or, bytes_eq, Option, Some, None, refl, sym, ap, ◌∙◌, append_assoc, arith}
use Rattle.std.specs.Option.{option_and_then, option_map, option_to_list, unwrap_or}
use Rattle.std.proofs.lemmas.List.{drop_more, drop_all, append-nil}
use Rattle.ns_types.specs.declared.turn.Item.{Item}
use Rattle.ns_script.specs.declared.turn.Setting.{Setting}
use Rattle.ns_script.specs.Turns.{names, place_from, place_of, word_said, settings, is_again, each_once, value_at, value_of, item_in, items_of}

pub names_len : length names ≡ 17
unfolding names
names_len = refl

pub place_start : (name : List ℕ) → place_from 0 (drop 0 names) name ≡ place_of name
unfolding place_of
place_start name = refl

place_opens : (k : ℕ) (name : List ℕ) → k < 17 → place_from k (drop k names) name ≡ cond (bytes_eq name (get_or names k [])) (Some k) (place_from (k + 1) (drop (k + 1) names) name)
place_opens k name h = ap (λ ns. place_from k ns name) (drop_more names k [] (omega (arith, names_len)))

pub place_yes : (k : ℕ) (name : List ℕ) (r : Option ℕ) → k < 17 → bytes_eq name (get_or names k []) ≡ true → place_from k (drop k names) name ≡ r → Some k ≡ r
place_yes k name r lt e h = sym (place_opens k name lt ∙ ap (λ b. cond b (Some k) (place_from (k + 1) (drop (k + 1) names) name)) e) ∙ h

pub place_no : (k : ℕ) (name : List ℕ) (r : Option ℕ) → k < 17 → bytes_eq name (get_or names k []) ≡ false → place_from k (drop k names) name ≡ r → place_from (k + 1) (drop (k + 1) names) name ≡ r
place_no k name r lt e h = sym (place_opens k name lt ∙ ap (λ b. cond b (Some k) (place_from (k + 1) (drop (k + 1) names) name)) e) ∙ h

pub place_end : (k : ℕ) (name : List ℕ) (r : Option ℕ) → 17 ≤ k → place_from k (drop k names) name ≡ r → None ≡ r
place_end k name r le h = ap (λ ns. place_from k ns name) (sym (drop_all k names (omega (arith, names_len)))) ∙ h

pub ruleset places = (place_start, place_yes, place_no, place_end)

-- found, and then what words say
unfoldable pub onto : List Setting → Option (List Setting) → Option (List Setting)
onto found o = option_map (λ more. found ++ more) o

onto_more : (found : List Setting) (s : Setting) (o : Option (List Setting)) → onto (found ++ s ∷ []) o ≡ onto found (option_and_then (λ more. Some (s ∷ more)) o)
unfolding onto
onto_more found s None = refl
onto_more found s (Some more) = ap Some (append_assoc found (s ∷ []) more)

said_cons : (w : List ℕ) (ws more : List (List ℕ)) (o : Option Setting) → ws ≡ w ∷ more → word_said w ≡ o → settings ws ≡ option_and_then (λ s. option_and_then (λ ss. Some (s ∷ ss)) (settings more)) o
said_cons w ws more o e f = ap settings e ∙ ap (option_and_then (λ s. option_and_then (λ ss. Some (s ∷ ss)) (settings more))) f

pub said_next : (found : List Setting) (s : Setting) (w : List ℕ) (ws more : List (List ℕ)) (r : Option (List Setting)) → ws ≡ w ∷ more → word_said w ≡ Some s → onto found (settings ws) ≡ r → onto (found ++ s ∷ []) (settings more) ≡ r
said_next found s w ws more r e f h = onto_more found s (settings more) ∙ ap (onto found) (sym (said_cons w ws more (Some s) e f)) ∙ h

pub said_bad : (found : List Setting) (w : List ℕ) (ws more : List (List ℕ)) (r : Option (List Setting)) → ws ≡ w ∷ more → word_said w ≡ None → onto found (settings ws) ≡ r → None ≡ r
unfolding onto
said_bad found w ws more r e f h = ap (onto found) (sym (said_cons w ws more None e f)) ∙ h

pub said_end : (found : List Setting) (r : Option (List Setting)) → onto found (Some []) ≡ r → Some found ≡ r
unfolding onto
said_end found r h = ap Some (sym (append-nil found)) ∙ h

pub onto_none : (o : Option (List Setting)) → onto [] o ≡ o
unfolding onto
onto_none None = refl
onto_none (Some more) = refl

-- how much of the words is left
abbrev pub left : Option (List ℕ) → ℕ
left None = 0
left (Some text) = suc (length text)

pub ruleset many = (said_next, said_bad, said_end, onto_none)

pub once_yes : (rest : List Setting) (d : Setting) (r : Bool) → 0 < length rest → is_again (get_or rest 0 d) (drop 1 rest) ≡ true → each_once rest ≡ r → false ≡ r
once_yes [] d r full e h = absurd (omega arith)
once_yes (s ∷ more) d r full e h = ap (λ b. cond b false (each_once more)) (sym e) ∙ h

pub once_no : (rest : List Setting) (d : Setting) (r : Bool) → 0 < length rest → is_again (get_or rest 0 d) (drop 1 rest) ≡ false → each_once rest ≡ r → each_once (drop 1 rest) ≡ r
once_no [] d r full e h = absurd (omega arith)
once_no (s ∷ more) d r full e h = ap (λ b. cond b false (each_once more)) (sym e) ∙ h

pub once_end : (rest : List Setting) (r : Bool) → length rest ≡ 0 → each_once rest ≡ r → true ≡ r
once_end [] r e h = h
once_end (s ∷ more) r e h = absurd (omega arith)

pub ruleset onces = (once_yes, once_no, once_end)

pub value_yes : (k n : ℕ) (ss : List Setting) (i : ℕ) (d : Setting) (r : ℕ) → i < length ss → value_at k (get_or ss i d) ≡ Some n → value_of k (drop i ss) ≡ r → n ≡ r
value_yes k n ss i d r lt e h =
    ap (λ o. unwrap_or o (value_of k (drop (i + 1) ss))) (sym e) ∙ ap (value_of k) (sym (drop_more ss i d lt)) ∙ h

pub value_no : (k : ℕ) (ss : List Setting) (i : ℕ) (d : Setting) (r : ℕ) → i < length ss → value_at k (get_or ss i d) ≡ None → value_of k (drop i ss) ≡ r → value_of k (drop (i + 1) ss) ≡ r
value_no k ss i d r lt e h =
    ap (λ o. unwrap_or o (value_of k (drop (i + 1) ss))) (sym e) ∙ ap (value_of k) (sym (drop_more ss i d lt)) ∙ h

pub value_end : (k : ℕ) (ss : List Setting) (i : ℕ) (r : ℕ) → length ss ≤ i → value_of k (drop i ss) ≡ r → 0 ≡ r
value_end k ss i r le h = ap (value_of k) (sym (drop_all i ss le)) ∙ h

pub ruleset values = (value_yes, value_no, value_end)

pub item_yes : (items : List Item) (item : Item) (ss : List Setting) (i : ℕ) (d : Setting) (r : List Item) → i < length ss → item_in (get_or ss i d) ≡ Some item → items ++ items_of (drop i ss) ≡ r → (items ++ item ∷ []) ++ items_of (drop (i + 1) ss) ≡ r
item_yes items item ss i d r lt e h =
    append_assoc items (item ∷ []) (items_of (drop (i + 1) ss))
    ∙ ap (λ o. items ++ (option_to_list o ++ items_of (drop (i + 1) ss))) (sym e)
    ∙ ap (λ l. items ++ items_of l) (sym (drop_more ss i d lt)) ∙ h

pub item_no : (items : List Item) (ss : List Setting) (i : ℕ) (d : Setting) (r : List Item) → i < length ss → item_in (get_or ss i d) ≡ None → items ++ items_of (drop i ss) ≡ r → items ++ items_of (drop (i + 1) ss) ≡ r
item_no items ss i d r lt e h =
    ap (λ o. items ++ (option_to_list o ++ items_of (drop (i + 1) ss))) (sym e)
    ∙ ap (λ l. items ++ items_of l) (sym (drop_more ss i d lt)) ∙ h

pub item_end : (items : List Item) (ss : List Setting) (i : ℕ) (r : List Item) → length ss ≤ i → items ++ items_of (drop i ss) ≡ r → items ≡ r
item_end items ss i r le h = sym (append-nil items) ∙ ap (λ l. items ++ items_of l) (sym (drop_all i ss le)) ∙ h

pub ruleset item_laws = (item_yes, item_no, item_end)
