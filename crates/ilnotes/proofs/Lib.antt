mod ReadSlots
