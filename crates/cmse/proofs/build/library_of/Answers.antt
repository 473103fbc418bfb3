use Rattle.std.proofs.Common.{ℕ, ◌≡◌, ◌∷◌, ◌++◌, [], List, ap, sym, subst, ◌∙◌}
use Rattle.ns_types.specs.declared.event.Veneer.{Veneer}
use Rattle.import_lib.specs.Library.{CanWrite}
use Rattle.cmse_build.proofs.Ready.{library_ready}
use Rattle.constant_entry.specs.Code.{first_veneer}
use Rattle.constant_entry.specs.Meaning.{one_veneer}
use Rattle.cmse.proofs.build.library_of.Goals as goal

pub write_implib-requires : goal.write_implib-requires
write_implib-requires c =
    let item : List ℕ → Veneer = λ n. record { name = n; address = first_veneer } in
    let e : c.push.new.self ≡ one_veneer c.args.name.now = c.in_ok-push.ensures.ok ∙ ap (λ l. l ++ item c.in_ok-from_slice.field-0 ∷ []) c.new-list.ensures ∙ ap (λ n. item n ∷ []) c.in_ok-from_slice.ensures in
    subst (λ l. CanWrite l) (sym e) (library_ready c.args.name.now c.requires)
