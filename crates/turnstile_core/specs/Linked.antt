-- What a link leads to, in order.
pub use Rattle.wait_objects.specs.Linked.{linked_places, linked_contents, number_in}
pub use Rattle.wait_objects.specs.Turnstiles.Seen.{linked_terms}
