-- What the structs of the tree do, each by its parts: the fold over a struct is the step on what its parts do.
use Rattle.std.proofs.Common.{◌≡◌, ℕ, Bool, true, false, List, ◌∷◌, map, option_map, Option, Some, None, Ok, ◌∙◌, refl, ap, rules}
use Rattle.cm_base.specs.declared.place.Place.{Place}
use Rattle.c_ast.specs.declared.expr.Link.{Link}
use Rattle.c_ast.specs.declared.expr.Name.{Name}
use Rattle.c_ast.specs.declared.expr.Next.{Next}
use Rattle.c_ast.specs.declared.expr.Declarator.{Declarator}
use Rattle.c_ast.specs.declared.expr.Enumerator.{Enumerator}
use Rattle.c_ast.specs.declared.expr.TypeName.{TypeName}
use Rattle.c_ast.specs.declared.expr.Spec.{Spec}
use Rattle.c_ast.specs.declared.expr.Param.TheVariants.{Named}
use Rattle.c_ast.specs.declared.expr.Abstract.TheFolds.{the_lemmas}
use Rattle.c_ast.specs.declared.expr.Abstract.TheOpen as layer
use Rattle.ns_types.specs.Operators.{add}
use Rattle.c_tree.specs.declared.expr.Expr.{Expr}
use Rattle.c_rows.specs.Answers.{◌>>=◌}
use Rattle.c_scope.specs.declared.tables.Layout.{Layout}
use Rattle.c_scope.specs.declared.tables.Tables.{Tables}
use Rattle.c_scope.specs.Steps.{◌>>>◌, keeping}
use Rattle.c_scope.specs.FileScope.{declare_constant}
use Rattle.c_check.specs.declared.around.Around.{Around}
use Rattle.c_check.specs.declared.formed.Formed.{Formed}
use Rattle.c_check.specs.declared.specified.Head.{Head}
use Rattle.c_check.specs.Operands.{joined, followed}
use Rattle.c_check.specs.Specified.{head_of}
use Rattle.c_check.specs.Formed.{parameter, type_of_name, with_member}
use Rattle.c_check.specs.Typed.{Linked, Following, Declaring, Counting, typed, linked_of, links_from, links, following_of, commas_from, commas, declaring, forming, declarators_from, declarators, counting, enumerators_from, enumerators, enumerator_value, value_or, specifiers, type_name, specifying, param_step, passing}

abbrev plain_link : Link → Linked
plain_link l = record { place = l.place; op = l.op; operand = typed l.operand }

linked_is : (l : Link) → linked_of l ≡ plain_link l
linked_is l = search (rules, the_lemmas)

pub links_cons : (around : Around) (first : Place) (left : Expr) (l : Link) (ls : List Link) (s : Tables)
    → links around first left (l ∷ ls) s ≡ (typed l.operand around s >>> (λ o u. joined l.op l.place left o >>= (λ whole. links around first whole ls u)))
links_cons around first left l ls s = ap (λ (x : Linked). links_from around first left (x ∷ map linked_of ls) s) (linked_is l)

abbrev plain_next : Next → Following
plain_next c = record { place = c.place; value = typed c.value }

following_is : (c : Next) → following_of c ≡ plain_next c
following_is c = search (rules, the_lemmas)

pub commas_cons : (around : Around) (first : Place) (left : Expr) (c : Next) (cs : List Next) (s : Tables)
    → commas around first left (c ∷ cs) s ≡ (typed c.value around s >>> (λ o u. followed c.place left o >>= (λ whole. commas around first whole cs u)))
commas_cons around first left c cs s = ap (λ (x : Following). commas_from around first left (x ∷ map following_of cs) s) (following_is c)

abbrev plain_declarator : Declarator → Declaring
plain_declarator d = record { name = d.name; form = forming d.form }

declaring_is : (d : Declarator) → declaring d ≡ plain_declarator d
declaring_is d = search (rules, the_lemmas)

pub declarators_cons : (around : Around) (h : Head) (l : Layout) (d : Declarator) (ds : List Declarator) (s : Tables)
    → declarators around h l (d ∷ ds) s ≡ (forming d.form h.attributes around s >>> (λ f u. with_member h.base d.name f l >>= (λ more. declarators around h more ds u)))
declarators_cons around h l d ds s = ap (λ (x : Declaring). declarators_from around h l (x ∷ map declaring ds) s) (declaring_is d)

pub declarators_next : (around : Around) (h : Head) (l more : Layout) (d : Declarator) (ds : List Declarator) (f : Formed) (s u : Tables)
    → forming d.form h.attributes around s ≡ Ok (f, u) → with_member h.base d.name f l ≡ Ok more → declarators around h l (d ∷ ds) s ≡ declarators around h more ds u
declarators_next around h l more d ds f s u p q =
    declarators_cons around h l d ds s
    ∙ (ap (λ r. r >>> (λ f u. with_member h.base d.name f l >>= (λ more. declarators around h more ds u))) p
    ∙ ap (λ r. r >>= (λ more. declarators around h more ds u)) q)

abbrev plain_enumerator : Enumerator → Counting
plain_enumerator e = record { name = e.name; value = option_map typed e.value }

counting_is : (e : Enumerator) → counting e ≡ plain_enumerator e
counting_is e = search (rules, the_lemmas)

pub enumerators_cons : (around : Around) (n : ℕ) (e : Enumerator) (es : List Enumerator) (s : Tables)
    → enumerators around n (e ∷ es) s ≡ (enumerator_value e around n s >>> (λ m u. declare_constant e.name m u >>> (λ done v. enumerators around (add m 1) es v)))
enumerators_cons around n e es s = ap (λ (name : Name). enumerator_value e around n s >>> (λ m u. declare_constant name m u >>> (λ done v. enumerators around (add m 1) es v))) (ap (λ (x : Counting). x.name) (counting_is e))

pub enumerator_value_is : (e : Enumerator) (around : Around) (n : ℕ) (s : Tables)
    → enumerator_value e around n s ≡ value_or (option_map typed e.value) around n s
enumerator_value_is e around n s = ap (λ (x : Counting). value_or x.value around n s) (counting_is e)

pub type_name_is : (n : TypeName) (around : Around) (s : Tables)
    → type_name n around s ≡ (specifiers false around n.specs s >>> (λ it u. keeping u (head_of it)) >>> (λ h u. forming n.declarator h.attributes around u >>> (λ f v. keeping v (type_of_name h f))))
type_name_is n around s = search (rules, the_lemmas)

named_step : (specs : List Spec) (d : Declarator) (around : Around) (s : Tables)
    → passing (Named specs d) around s ≡ param_step (layer.Named (map specifying specs) (declaring d)) around s
named_step specs d around s = search (rules, the_lemmas)

pub named_is : (specs : List Spec) (d : Declarator) (around : Around) (s : Tables)
    → passing (Named specs d) around s ≡ (specifiers false around specs s >>> (λ it u. keeping u (head_of it)) >>> (λ h u. forming d.form h.attributes around u >>> (λ f v. parameter (Some d.name) h f around v)))
named_is specs d around s = named_step specs d around s ∙ ap (λ (x : Declaring). param_step (layer.Named (map specifying specs) x) around s) (declaring_is d)
