-- `&&`, and lists of which each element passes a test.
pub use Rattle.later_laws.proofs.Both.{all_append, all_get, all_map, all_push, all_reversed, all_set, all_take, both, is_or_not, left, no, or_pass, right}
