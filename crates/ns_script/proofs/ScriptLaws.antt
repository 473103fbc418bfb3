-- Bytes written one by one, and lines read one by one.
use Rattle.std.proofs.Common.{◌≡◌, ℕ, ◌+◌, ◌<◌, ◌≤◌, List, [], ◌∷◌, ◌++◌, length, take, drop, get_or, slice_set, replicate, Option, Some, None, Result, Ok, Err, refl, sym, ap, ◌∙◌, subst, append_assoc, length-append, length-drop, add-zero, arith}
use Rattle.std.proofs.Math.Seq.{set-append_seam}
use Rattle.std.proofs.Math.ListN.{length-set}
use Rattle.std.proofs.lemmas.List.{drop_more, take_all, take_more, append-nil, length-replicate, take-append-drop, length-take-le}
use Rattle.ns_script.specs.declared.script.Script.{Script}
use Rattle.ns_script.specs.Text.{lines}
use Rattle.ns_script.specs.Script.{with_bytes, zeros, or_bad, with_line, script_from, script_of}

with_front : (to : List ℕ) (at : ℕ) (more : List ℕ) (i : ℕ) → i ≤ length more → with_bytes to at (take i more) ≡ (take at to ++ take i more) ++ drop (at + i) to
unfolding with_bytes
with_front to at more i h = ap (λ n. (take at to ++ take i more) ++ drop (at + n) to) (length-take-le i more h)

seam : (xs : List ℕ) (y : ℕ) (ys : List ℕ) (n a : ℕ) → length xs ≡ n → slice_set (xs ++ y ∷ ys) n a ≡ (xs ++ a ∷ []) ++ ys
seam xs y ys n a e = subst (λ n. slice_set (xs ++ y ∷ ys) n a ≡ (xs ++ a ∷ []) ++ ys) e (set-append_seam xs y ys a ∙ sym (append_assoc xs (a ∷ []) ys))

pub write_next : (to : List ℕ) (at : ℕ) (more : List ℕ) (i : ℕ) → at + length more ≤ length to → i < length more → slice_set (with_bytes to at (take i more)) (at + i) (get_or more i 0) ≡ with_bytes to at (take (i + 1) more)
write_next to at more i fits lt =
    let a = get_or more i 0 in
    let x : List ℕ = take at to ++ take i more in
    let long : length (take at to ++ take i more) ≡ at + i = length-append (take at to) (take i more) ∙ omega (arith, length-take-le at to (omega arith), length-take-le i more (omega arith)) in
    let one : with_bytes to at (take i more) ≡ (take at to ++ take i more) ++ get_or to (at + i) 0 ∷ drop (at + i + 1) to = with_front to at more i (omega arith) ∙ ap (λ d. (take at to ++ take i more) ++ d) (drop_more to (at + i) 0 (omega arith)) in
    let two = seam (take at to ++ take i more) (get_or to (at + i) 0) (drop (at + i + 1) to) (at + i) (get_or more i 0) long in
    let sum : at + i + 1 ≡ at + (i + 1) = omega arith in
    let three : ((take at to ++ take i more) ++ get_or more i 0 ∷ []) ++ drop (at + i + 1) to ≡ (take at to ++ take (i + 1) more) ++ drop (at + (i + 1)) to =
    ap (λ l. l ++ drop (at + i + 1) to) (append_assoc (take at to) (take i more) (get_or more i 0 ∷ []) ∙ ap (λ l. take at to ++ l) (sym (take_more more i 0 lt))) ∙ ap (λ n. (take at to ++ take (i + 1) more) ++ drop n to) sum in
    ap (λ l. slice_set l (at + i) (get_or more i 0)) one ∙ two ∙ three ∙ sym (with_front to at more (i + 1) (omega arith))

pub write_none : (to : List ℕ) (at : ℕ) (more : List ℕ) → to ≡ with_bytes to at (take 0 more)
unfolding with_bytes
write_none to at more = sym (ap (λ l. l ++ drop (at + 0) to) (append-nil (take at to)) ∙ ap (λ n. take at to ++ drop n to) (add-zero at) ∙ take-append-drop at to)

pub write_all : (to : List ℕ) (at : ℕ) (more : List ℕ) (i : ℕ) → length more ≤ i → with_bytes to at (take i more) ≡ with_bytes to at more
write_all to at more i le = ap (with_bytes to at) (take_all i more le)

pub with_size : (to : List ℕ) (at : ℕ) (more : List ℕ) → at + length more ≤ length to → length (with_bytes to at more) ≡ length to
unfolding with_bytes
with_size to at more fits = omega (arith, length-append (take at to ++ more) (drop (at + length more) to), length-append (take at to) more, length-take-le at to (omega arith), length-drop (at + length more) to)

pub ruleset writes = (write_next, write_none, write_all, with_size)

pub zeros_size : (n : ℕ) → length (zeros n) ≡ n
unfolding zeros
zeros_size n = length-replicate n 0

pub zeros_are : (n : ℕ) → replicate n 0 ≡ zeros n
unfolding zeros
zeros_are n = refl

pub filled_size : (n b : ℕ) → length (replicate n b) ≡ n
filled_size n b = length-replicate n b

pub ruleset sizes = (with_size, zeros_size, zeros_are, filled_size)

pub set_size : (l : List ℕ) (i a : ℕ) → length (slice_set l i a) ≡ length l
set_size l i a = simp length-set

-- a text that holds nothing
pub script_none : (text : List ℕ) → length text ≡ 0 → script_of text ≡ Err 1
unfolding script_of lines
script_none [] h = refl
script_none (x ∷ xs) h = absurd (omega arith)

step_opens : (k : ℕ) (s : Script) (line : List ℕ) (ls more : List (List ℕ)) (o : Option Script) → ls ≡ line ∷ more → with_line line s ≡ o → script_from k s ls ≡ or_bad k o (λ t. script_from (k + 1) t more)
step_opens k s line ls more o e f = ap (script_from k s) e ∙ ap (λ o. or_bad k o (λ t. script_from (k + 1) t more)) f

pub step_next : (k : ℕ) (s t : Script) (line : List ℕ) (ls more : List (List ℕ)) (r : Result Script ℕ) → ls ≡ line ∷ more → with_line line s ≡ Some t → script_from k s ls ≡ r → script_from (k + 1) t more ≡ r
step_next k s t line ls more r e f h = sym (step_opens k s line ls more (Some t) e f) ∙ h

pub step_bad : (k : ℕ) (s : Script) (line : List ℕ) (ls more : List (List ℕ)) (r : Result Script ℕ) → ls ≡ line ∷ more → with_line line s ≡ None → script_from k s ls ≡ r → r ≡ Err k
step_bad k s line ls more r e f h = sym h ∙ step_opens k s line ls more None e f

pub step_end : (k : ℕ) (s : Script) (text : List ℕ) (r : Result Script ℕ) → length text ≡ 0 → script_from k s (lines text) ≡ r → r ≡ Ok s
unfolding lines
step_end k s [] r e h = sym h
step_end k s (x ∷ xs) r e h = absurd (omega arith)

pub ruleset steps = (step_next, step_bad, step_end)

pub ruleset wholes = (step_end)
