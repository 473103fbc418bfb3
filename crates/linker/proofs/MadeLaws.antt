-- What the passes ask of objects that can be passed on, where their tables are known.
use Rattle.std.proofs.Common.{◌≡◌, ◌+◌, ◌<◌, ◌≤◌, ◌^◌, true, List, length, flat_map, All, codes, refl, sym, ap, ◌∙◌, subst}
use Rattle.std.specs.List.{list_all}
use Rattle.ns_types.specs.Platform.{row_size}
use Rattle.ns_types.specs.declared.event.Veneer.{Veneer}
use Rattle.elf_object.specs.declared.object.Object.{Object}
use Rattle.elf_object.specs.declared.object.Sited.{Sited}
use Rattle.link_laws.specs.Sites.{sited, used}
use Rattle.linker.specs.declared.driver.Linked.{Linked}
use Rattle.linker.specs.Table.{Names, defined, veneer_names, have_addresses}
use Rattle.linker.specs.Passes.{place_named, front_by, rom_by, symbols_of_veneer, CanPut, CanLead, CanPass, IsMade}

module _ (objects : List Object) (veneers : List Veneer) (can : CanPass objects veneers) (entries names : Names) (all : List Sited) (vs : List Veneer)
    (ea : all ≡ sited objects) (ee : entries ≡ veneer_names veneers) (en : names ≡ defined entries all) (ev : vs ≡ veneers) where
  names_are : names ≡ defined (veneer_names veneers) (sited objects)
  names_are = rw (en, ee, ea) refl

  pub addresses_here : list_all have_addresses all ≡ true
  addresses_here = subst (λ a. list_all have_addresses a ≡ true) (sym ea) can.addresses

  pub put_here : All (CanPut entries names) all
  put_here =
      subst (λ a. All (CanPut entries names) a) (sym ea)
      (subst (λ n. All (CanPut entries n) (sited objects)) (sym names_are)
      (subst (λ e. All (CanPut e (defined (veneer_names veneers) (sited objects))) (sited objects)) (sym ee) can.put))

  pub lead_here : All (CanLead names) vs
  lead_here = subst (λ v. All (CanLead names) v) (sym ev) (subst (λ n. All (CanLead n) veneers) (sym names_are) can.lead)

  pub inits_here : All (λ s. s.init_at + length s.object.init < 2 ^ 32) all
  inits_here i d lt = (put_here i d lt).init_low

  pub texts_here : All (λ s. s.text_at + length s.object.text < 2 ^ 32) all
  texts_here i d lt = (put_here i d lt).text_low

  pub start_here : place_named names (codes ".start") + 1 < 2 ^ 32
  start_here = subst (λ n. place_named n (codes ".start") + 1 < 2 ^ 32) (sym names_are) can.start

  pub stop_here : place_named names (codes ".stop") + 1 < 2 ^ 32
  stop_here = subst (λ n. place_named n (codes ".stop") + 1 < 2 ^ 32) (sym names_are) can.stop

  pub low_here : length (front_by entries names all) ≤ row_size 2
  low_here =
      subst (λ a. length (front_by entries names a) ≤ row_size 2) (sym ea)
      (subst (λ n. length (front_by entries n (sited objects)) ≤ row_size 2) (sym names_are)
      (subst (λ e. length (front_by e (defined (veneer_names veneers) (sited objects)) (sited objects)) ≤ row_size 2) (sym ee) can.low))

  -- what is made
  pub made_here : (l : Linked) → l.rom ≡ rom_by entries names all vs → l.used ≡ used all → l.symbols ≡ flat_map (symbols_of_veneer names) vs → l.veneers.list ≡ veneers → IsMade objects veneers l
  made_here l r u s v = record {
    rom = r ∙ (ap (λ a. rom_by entries names a vs) ea ∙ (ap (λ n. rom_by entries n (sited objects) vs) names_are ∙ (ap (λ e. rom_by e (defined (veneer_names veneers) (sited objects)) (sited objects) vs) ee ∙ ap (rom_by (veneer_names veneers) (defined (veneer_names veneers) (sited objects)) (sited objects)) ev)));
    used = u ∙ ap used ea;
    symbols = s ∙ (ap (λ n. flat_map (symbols_of_veneer n) vs) names_are ∙ ap (flat_map (symbols_of_veneer (defined (veneer_names veneers) (sited objects)))) ev);
    veneers_are = v;
  }
